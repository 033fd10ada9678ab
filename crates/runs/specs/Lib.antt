-- Calls one after the other, over any matrix and any hint: what they leave, what each is answered, and what becomes of a ticket.
pub mod Run
pub mod Said
pub mod Groups

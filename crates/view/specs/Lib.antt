-- The packed view: what `view` makes. The other contracts are arith's own definitions, at the view's fields.
pub mod Packed

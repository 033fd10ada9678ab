-- The first step makes every refusal but 6.
use Rattle.std.proofs.Common.{refl, sym, ◌∙◌}
use Rattle.client_answers.specs.Open.{opening_refuses}
use Rattle.queries.specs.Open.{Asked, asked}
use Rattle.queries.proofs.open.Answers.{early, no_test, refused, unread, said_same}
use Rattle.queries.proofs.open.query_for_4_wise_xor_filter.Goals as goal
use Rattle.queries.proofs.open.query_for_4_wise_xor_filter.Goals.{Start}

-- what is lent
abbrev lent : Start → Asked
lent st =
    let a = st.args in
    asked a.table a.slab.now a.n a.r a.matrix.now a.hint.now a.interval a.positions a.digest
    a.words.now a.secret.now a.error.now a.query.now

pub returns-in-Err : goal.returns-in-Err
unfolding early
returns-in-Err c =
    let a = lent (goal.at.returns-in-Err c).Start in
    let e = c.in-Err.ensures.number in
    let r = refused a (rw (← e) (opening_refuses c.in-Err.reason)) in record {
      result_value = said_same e refl (unread a c.in-Err.reason e) refl ∙ sym r.0;
      query_after = sym r.1;
    }

pub make_query-requires : goal.make_query-requires
unfolding early
make_query-requires c =
    let told = c.in-Ok.ensures.asked in
    let clear = no_test (lent (goal.at.make_query-requires c).Start) (sym c.in-Ok.ensures.number) in
    rw (told.0, told.1, told.2) clear.1.0

pub returns-in-Ok : goal.returns-in-Ok
returns-in-Ok c =
    let told = c.in-Ok.ensures.asked in
    rw (told.0, told.1, told.2, told.3, told.4, told.5, told.6) at c.make_query.ensures

use Rattle.queries.proofs.Checks.{place-low, bad_book, bad-list, bad_text, ready}
use Rattle.questions.specs.Is.{Is}
use native.Mathlib.Omega.{arith}
use Rattle.queries.proofs.read_query.Goals as goal

pub overflow_cast-checked : goal.overflow_cast-checked
overflow_cast-checked c = record { fits = omega (arith, place-low _ _ c.check_book-checked.ensures) }

pub returns-then-checked-ne0 : goal.returns-then-checked-ne0
returns-then-checked-ne0 c =
    let i : Is c.args.text.now c.args.book.now c.args.names.now c.args.query.now c.args.list.now c.refusal.result c.args.query.now c.args.list.now = bad_book _ _ c.check_book-checked.ensures _ _ _ _ _ c.if-checked-ne0.true c.refusal.ensures in
    record { answer = i.answer; query = i.query_is; list = i.list_is }

pub returns-then-found-ne0 : goal.returns-then-found-ne0
returns-then-found-ne0 c =
    let i : Is c.args.text.now c.args.book.now c.args.names.now c.args.query.now c.args.list.now c.refusal-then-found-ne0.result c.args.query.now c.args.list.now = bad_text _ _ c.check_book-checked.ensures c.if-checked-ne0.false _ _ c.known_names.ensures _ c.in-Some.is _ _ c.check_text-found.ensures _ _ _ c.if-found-ne0.true c.refusal-then-found-ne0.ensures in
    record { answer = i.answer; query = i.query_is; list = i.list_is }

pub read_known-requires : goal.read_known-requires
read_known-requires c = ready _ _ c.check_book-checked.ensures c.if-checked-ne0.false _ _ c.known_names.ensures _ c.in-Some.is _ _ c.check_text-found.ensures (λ i. omega (arith, c.type_inv.names i)) c.if-found-ne0.false

pub returns-in_default : goal.returns-in_default
returns-in_default c =
    let i : Is c.args.text.now c.args.book.now c.args.names.now c.args.query.now c.args.list.now c.refusal-in_default.result c.args.query.now c.args.list.now = bad-list _ _ c.check_book-checked.ensures c.if-checked-ne0.false _ c.in_default.ensures _ _ _ _ c.refusal-in_default.ensures in
    record { answer = i.answer; query = i.query_is; list = i.list_is }

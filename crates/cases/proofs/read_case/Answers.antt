-- The head and the words behind it are what the two reads consumed, one behind the other.
use Rattle.std.proofs.Common.{◌≡◌, ℕ, ◌+◌, ◌-◌, ◌*◌, ◌≤◌, List, ◌++◌, rules, length, take, drop, sym, ap, ◌∙◌, subst, drop_at, length-take-le}
use Rattle.std.specs.Io.KnownBytes.{Consumes}
use Rattle.std.proofs.KnownBytes.{Consumes-trans}
use borrow.Rule.Slice.PartMut.{post_of}
use lib.Seq.{take-add, take-append-le, take-append_seam}
use Rattle.cases.proofs.read_case.Goals as goal

joined : (h s : ℕ) (row words rest : List ℕ) → h ≤ length row → s ≤ length words → take h row ++ take s words ≡ take (h + s) (take h row ++ (words ++ rest))
joined h s row words rest long room =
    let size : length (take h row) ≡ h = length-take-le h row long in
    let front : take h (take h row ++ (words ++ rest)) ≡ take h row =
    ap (λ n. take n (take h row ++ (words ++ rest))) (sym size) ∙ take-append_seam (take h row) (words ++ rest) in
    let behind : take s (drop h (take h row ++ (words ++ rest))) ≡ take s words =
    ap (take s) (drop_at (take h row) (words ++ rest) h size) ∙ take-append-le s words rest room in
    sym (take-add h s (take h row ++ (words ++ rest)) ∙ rw (front, behind))

pub returns-clause-consumed : goal.returns-clause-consumed
returns-clause-consumed g c =
    let one = c.if-not-branch.false in
    let two = c.if-not-branch-2.false in
    let head = c.args.head in
    let size = 2 * c.from-size.result in
    let row = c.take.new.bytes in
    let words = c.take-2.new.bytes in
    let rest = post_of head (length row - head) row in
    let long : head ≤ length row = search rules in
    let room : size ≤ length words = search rules in
    subst (Consumes _ _) (joined head size row words rest long room)
    (Consumes-trans _ _ _ _ _ (c.in_ok-take.ensures.consumed one) (c.in_ok-take-2.ensures.consumed two))

-- A scope whose body is nil as an edit on words, as the code goes.
use Rattle.std.specs.Prelude.{ℕ, ◌-◌, cond, List, ◌++◌, ltb, eqb, length, get_or, set, take, drop}
use Rattle.sock.specs.Words.{name_of, mark_of, zombie_of, first_name, scope_key}
use Rattle.skipping.specs.Pass.{pass_list}
use Rattle.layout.specs.Positions.{onward}
use Rattle.layout.specs.Heads.{cleared_head}
use Rattle.writers.specs.Writing.{pasted, pasted_end}
use Rattle.finding.specs.declared.find.Site.{Site}
use Rattle.handling.specs.declared.take.Taken.{Taken}
use Rattle.handling.specs.Taking.{Took, taken, take_w}
use Rattle.handling.specs.Updating.{update_by_w}
use Rattle.rules.specs.Storing.{unchanged}
use Rattle.rules.specs.Editing.{Edited, edited, nil_w, replaced_w}
use Rattle.scopes.specs.Installing.{updated_w}

-- the head of a scope that runs its handler
abbrev pub resumed_head : ℕ → ℕ
resumed_head h = cleared_head h

unfoldable pub key_at_w : List ℕ → ℕ → ℕ
key_at_w ws at =
    cond (eqb (mark_of (get_or ws at 0)) 1) (first_name (get_or ws (onward at 1) 0)) (scope_key (name_of (get_or ws at 0)))

abbrev pub took : Taken → List ℕ → Took
took t out = record { answer = t; out = out }

-- the list is written into the fresh words behind the first two
unfoldable pub take_behind_w : List ℕ → ℕ → ℕ → List ℕ → Took
take_behind_w ws list key fresh =
    let t = take_w 64 ws list key (take (length fresh - 2) (drop 2 fresh)) in
    cond (ltb (length fresh) 2) (took (taken 0 0 0) fresh)
    (took t.answer (take 2 fresh ++ (t.out ++ drop (length fresh - 2) (drop 2 fresh))))

unfoldable pub taken_to : List ℕ → Taken → ℕ → ℕ
taken_to ws t to = cond (eqb t.upto 0) (onward to 1) (pasted_end ws t.from t.upto to)

unfoldable pub taken_w : List ℕ → Taken → List ℕ → ℕ → List ℕ
taken_w ws t fresh to = cond (eqb t.upto 0) (set fresh to 0) (pasted ws t.from t.upto fresh to)

unfoldable pub resumed_w : List ℕ → List ℕ → ℕ → ℕ → ℕ → List ℕ → Edited
resumed_w ws notes start at key fresh =
    let t = take_behind_w ws (onward at 2) key (set (set fresh 0 (resumed_head (get_or ws at 0))) 1 0) in
    let end = onward (pass_list 64 ws notes (onward at 2)) 1 in
    edited (replaced_w start at end (taken_to ws t.answer (onward 2 t.answer.to)))
    (taken_w ws t.answer t.out (onward 2 t.answer.to))

unfoldable pub promoted_to : List ℕ → ℕ → Taken → ℕ → List ℕ → ℕ
promoted_to ws l t key fresh =
    cond (eqb t.upto 0) (take_w 64 ws l key fresh).answer.to (update_by_w 64 ws l (t.from - 1) 1 fresh).answer.to

unfoldable pub promoted_w : List ℕ → ℕ → Taken → ℕ → List ℕ → List ℕ
promoted_w ws l t key fresh =
    cond (eqb t.upto 0) (take_w 64 ws l key fresh).out (update_by_w 64 ws l (t.from - 1) 1 fresh).out

unfoldable pub ending_w : List ℕ → List ℕ → Site → ℕ → List ℕ → Edited
ending_w ws notes s key fresh =
    let t = take_w 64 ws (onward s.at 2) key fresh in
    let l = onward s.scope 2 in
    updated_w ws notes s l (promoted_to ws l t.answer key t.out) (promoted_w ws l t.answer key t.out)

-- with no mark
unfoldable pub unmarked_w : List ℕ → List ℕ → ℕ → Site → ℕ → List ℕ → Edited
unmarked_w ws notes start s key fresh =
    cond (eqb (zombie_of (get_or ws s.at 0)) 1) (nil_w s start start 0 unchanged fresh)
    (cond (eqb s.scope 0) (nil_w s start start 0 unchanged fresh)
    (ending_w ws notes s key fresh))

unfoldable pub ended_w : List ℕ → List ℕ → ℕ → Site → List ℕ → Edited
ended_w ws notes start s fresh =
    let h = get_or ws s.at 0 in
    let key = key_at_w ws s.at in
    cond (ltb 0 (mark_of h)) (resumed_w ws notes start s.at key fresh) (unmarked_w ws notes start s key fresh)

-- What a throw makes of an engine's words, as the code goes.
use Rattle.std.specs.Prelude.{ℕ, Bool, true, false, cond, List, eqb, get_or, set}
use Rattle.sock.specs.Words.{name_of}
use Rattle.skipping.specs.Skip.{skip_list}
use Rattle.skipping.specs.Pass.{pass_list}
use Rattle.finding.specs.declared.find.Site.{Site}
use Rattle.layout.specs.Positions.{onward}
use Rattle.layout.specs.Heads.{faulted_head, fault_word}
use Rattle.writers.specs.Writing.{pasted, pasted_end}
use Rattle.pending.specs.Looking.{sides_w}
use Rattle.killing.specs.Killing.{Killed, kill_w}
use Rattle.killing.specs.declared.kill.Moved.{Moved}
use Rattle.rules.specs.Editing.{Edit, Edited, edited, refused_edit, replaced_w}

unfoldable pub fault_w : List ℕ → ℕ → ℕ
fault_w ws i = name_of (get_or ws i 0)

-- what was killed, from `a` on, becomes the fresh words
unfoldable pub cleared_w : ℕ → ℕ → Moved → Edit
cleared_w start a k =
    cond (eqb k.end 0) (refused_edit 6) (replaced_w start a k.end k.to)

unfoldable pub cleared_by : ℕ → ℕ → Killed → Edited
cleared_by start a k = edited (cleared_w start a k.moved) k.out

unfoldable pub uncaught_w : List ℕ → List ℕ → ℕ → ℕ → ℕ → List ℕ → Edited
uncaught_w ws notes start fault i fresh =
    cond (sides_w 64 ws notes i start) (edited (refused_edit 6) fresh) (cleared_by start start (kill_w 64 ws notes fault i start fresh 0))

-- whether the list of the scope at c has the fault
unfoldable pub listed_w : List ℕ → ℕ → ℕ → Bool
listed_w ws c fault = cond (eqb (skip_list 64 ws fault (onward c 2)) 0) false true

-- the first two words of the scope at c
unfoldable pub marked_w : List ℕ → ℕ → ℕ → List ℕ → List ℕ
marked_w ws c fault fresh =
    cond (listed_w ws c fault)
    (set (set fresh 0 (faulted_head (get_or ws c 0))) 1 (fault_word fault))
    (set (set fresh 0 (get_or ws c 0)) 1 (get_or ws (onward c 1) 0))

-- where the body of the scope at c begins
unfoldable pub body_w : List ℕ → List ℕ → ℕ → ℕ
body_w ws notes c = pass_list 64 ws notes (onward c 2)

-- all of it but the body
unfoldable pub opened_to : List ℕ → ℕ → ℕ → ℕ
opened_to ws c body = pasted_end ws (onward c 2) body 2

unfoldable pub opened_w : List ℕ → ℕ → ℕ → ℕ → List ℕ → List ℕ
opened_w ws c body fault fresh = pasted ws (onward c 2) body (marked_w ws c fault fresh) 2

unfoldable pub caught_w : List ℕ → List ℕ → ℕ → ℕ → ℕ → ℕ → List ℕ → Edited
caught_w ws notes start c fault i fresh =
    let body = body_w ws notes c in
    cond (sides_w 64 ws notes i body) (edited (refused_edit 6) fresh)
    (cleared_by start c (kill_w 64 ws notes fault i body (opened_w ws c body fault fresh) (opened_to ws c body)))

unfoldable pub thrown_w : List ℕ → List ℕ → ℕ → Site → List ℕ → Edited
thrown_w ws notes start s fresh =
    cond (eqb s.catcher 0) (uncaught_w ws notes start (fault_w ws s.at) s.at fresh)
    (caught_w ws notes start s.catcher (fault_w ws s.at) s.at fresh)

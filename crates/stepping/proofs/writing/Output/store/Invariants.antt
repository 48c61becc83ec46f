-- `store` of `stepping::writing::Output` meets its contract. The loop's invariant: the variables left, written from here on, give what all give
-- from the start.
use mathlib.Core.Path.{◌≡◌}
use lib.ListN.{drop}
use Rattle.rules.specs.Storing.{storing}
use Rattle.stepping.specs.Writing.{store_w}
use Rattle.stepping.proofs.Turns.{values_w}
use Rattle.stepping.proofs.writing.Output.store.Given as goal

abbrev pub invariant-loop-taking : goal.invariant-loop-taking
invariant-loop-taking l =
    (l.self.to ≡ l.fn.self.to) × (l.self.words.ghost_name ≡ l.fn.self.words.ghost_name)
    × (values_w l.fn.self.to (drop l.taking-index l.fn.s) l.self.words.now ≡ store_w l.fn.self.words.now l.fn.self.to (storing l.fn.s))

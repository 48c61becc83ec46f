-- Scratch: a move's result begins it, and is no longer than a configuration may be.
-- Assumes nothing.
use Prim.Native.Nat.{ℕ, ◌≤◌}
use mathlib.Core.Path.{◌≡◌}
use mathlib.Core.List.{List}
use lib.Dec.{leb→le}
use lib.ListN.{length}
use Rattle.sock.specs.Configuration.{standard, encode}
use Rattle.sock.specs.Calls.{Numbers, done, Stepped}
use Rattle.sock.proofs.Steps.{sure_done_lem}
use Rattle.sock.proofs.Taken.{step_accepts}
use Rattle.keeper.specs.Game.{moved}

-- the result of a move is no longer than a configuration may be
pub accepted_short : (ws : List ℕ) (k : Numbers) (x : Stepped) → moved ws k ≡ done x → length (encode x.config) ≤ 8192
unfolding moved
accepted_short ws k x e = leb→le _ 8192 (sure_done_lem (step_accepts standard ws k 8192) e).within.short

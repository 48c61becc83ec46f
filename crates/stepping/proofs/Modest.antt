-- The limits at which the step's laws hold: no more than the standard ones; and notes that are all 0.
-- Assumes nothing.
use Prim.Native.Nat.{ℕ, ◌≤◌}
use native.Mathlib.Omega.{arith}
use mathlib.Core.Path.{◌≡◌, sym, ap}
use lib.ListN.{replicate, length-replicate}
use Rattle.sock.specs.Configuration.{standard}
use Rattle.layout.specs.Limits.{figures}
use Rattle.layout.specs.declared.limit.Limits.{Limits}
use Rattle.stepping.specs.Lent.{Blank}

pub record Modest (limits : Limits) : Type 0 where
  pub low : limits.deepest ≤ 64
  pub few : limits.longest ≤ 8192

pub modest_standard : {limits : Limits} → figures limits ≡ standard → Modest limits
modest_standard e = record { low = omega (arith, ap (λ l. l.deepest) e); few = omega (arith, ap (λ l. l.longest) e) }

pub blank_notes : (n : ℕ) → Blank (replicate n 0)
blank_notes n = ap (λ (m : ℕ). replicate m 0) (sym (length-replicate n 0))

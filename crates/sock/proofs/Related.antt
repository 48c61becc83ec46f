-- Two results related: by a relation that every refusal has to itself, whatever is done first in both keeps it. So two steps that read alike
-- are related, if what their limits leave of each result is.
-- Assumes nothing.
use Prim.Native.Nat.{ℕ}
use mathlib.Core.Path.{◌≡◌}
use mathlib.Core.List.{List}
use Rattle.sock.specs.Configuration.{Limits, read_config}
use Rattle.sock.specs.Calls.{Refusal, Result, refused, done, ◌>>=◌, ◌>>◌, Numbers, Stepped, step}
use Rattle.sock.proofs.Taken.{limited}

module _ {B : Type 0} (R : Result B → Result B → Type 0) (alike : (r : Refusal) → R (refused r) (refused r)) where
  pub bind_related : {A : Type 0} (r : Result A) (k l : A → Result B) → ((a : A) → R (k a) (l a)) → R (r >>= k) (r >>= l)
  unfolding ◌>>=◌
  bind_related (refused r) k l f = alike r
  bind_related (done a) k l f = f a

  pub then_related : {A : Type 0} (r : Result A) (k l : Result B) → R k l → R (◌>>◌ r k) (◌>>◌ r l)
  unfolding ◌>>◌
  then_related (refused r) k l f = alike r
  then_related (done a) k l f = f

pub step_related :
    (R : Result Stepped → Result Stepped → Type 0) →
    ((r : Refusal) → R (refused r) (refused r)) →
    (s l : Limits) (ws : List ℕ) (k : Numbers) (room half : ℕ) →
    read_config s ws ≡ read_config l ws →
    ((x : Stepped) → R (limited s room x) (limited l half x)) →
    R (step s ws k room) (step l ws k half)
unfolding step limited
step_related R alike s l ws k room half e f =
    rw e
    (bind_related R alike _ _ _ λ c.
    bind_related R alike _ _ _ λ a.
    bind_related R alike _ _ _ λ m.
    bind_related R alike _ _ _ λ b.
    bind_related R alike _ _ _ λ o.
    bind_related R alike _ _ _ λ x.
    bind_related R alike _ _ _ λ t. f t)

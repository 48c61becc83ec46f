-- Where the processes of a configuration stand in its words: each from its start on, the next one's values behind it.
-- Assumes nothing.
use Prim.Native.Nat.{ℕ, ◌+◌, ◌-◌, ◌<◌, ◌≤◌}
use native.Mathlib.Omega.{arith}
use native.Mathlib.Nat.{add-zero}
use native.Mathlib.Numerals.{add-one}
use mathlib.Core.Path.{◌≡◌, refl, sym, ap, ◌∙◌}
use mathlib.Core.Bool.{not}
use mathlib.Core.List.{List, [], ◌∷◌, ◌++◌, append-nil}
use lib.Dec.{T, eqb}
use lib.ListN.{length, get_or, take, drop, length-append, length-drop}
use lib.Seq.{drop_at, get_or-drop, take-suc}
use borrow.Author.Tests.{ne_eqb}
use Rattle.sock.specs.Words.{kind_of}
use Rattle.sock.specs.Term.{Node, node, head_word}
use Rattle.sock.specs.Layout.{words}
use Rattle.sock.specs.Running.{Run, scope_head, as_node, run_words, size}
use Rattle.sock.specs.Configuration.{Engine, Config, engine_words, engines_words, encode, is_scope}
use Rattle.sock.specs.Calls.{engine_at}
use Rattle.sock.specs.Frames.{is_done}
use Rattle.sock.proofs.Fits.{Sound, nil_sound, seq_sound, par_sound, scope_sound, executor_sound, waiter_sound, notice_sound, act_sound, rootable, FitsEngine, FitsConfig}
use Rattle.sock.proofs.Fields.{scope_kind}
use Rattle.sock.proofs.Located.{values_length, engines_append, engine_fits, start_of, words_before, words_after, encode_split, before_length, size_positive}
use Rattle.reading.specs.Walk.{at}

engine_length : (g : Engine) → length g.values ≡ 32 → length (engines_words (g ∷ [])) ≡ 64 + size g.process
unfolding engines_words engine_words size
engine_length g h = simp (append-nil, length-append) (omega (arith, values_length g.values))

node_head : (m : Node) (rest : List ℕ) → get_or (words m ++ rest) 0 0 ≡ head_word m
unfolding words
node_head (node h f es b ps) rest = refl

pub first_word : (r : Run) (rest : List ℕ) → get_or (run_words r ++ rest) 0 0 ≡ head_word (as_node r)
unfolding run_words
first_word r rest = node_head (as_node r) rest

module _ (c : Config) (f : FitsConfig c) (e : ℕ) (h : e < length c.engines) where
  pub fits_at : FitsEngine (length c.engines) c.issued (engine_at c e)
  fits_at = engine_fits _ f.engines e h

  pub stands_at : drop (start_of c e) (encode c) ≡ run_words (engine_at c e).process ++ words_after c e
  stands_at = rw (encode_split c e h) (drop_at (words_before c e) (run_words (engine_at c e).process ++ words_after c e) (start_of c e) (before_length c e h f))

  pub start_inside : start_of c e + size (engine_at c e).process ≤ length (encode c)
  unfolding size
  start_inside =
      let long : length (encode c) - start_of c e ≡ length (run_words (engine_at c e).process) + length (words_after c e) = simp (length-append, length-drop) at (ap length stands_at) in
      omega (arith, size_positive (engine_at c e).process)

  pub start_next : start_of c (e + 1) ≡ start_of c e + size (engine_at c e).process + 64
  start_next =
      let one : take (e + 1) c.engines ≡ take e c.engines ++ (engine_at c e ∷ []) = rw add-one (take-suc c.engines e _ h) in
      let long : length (engines_words (take e c.engines ++ (engine_at c e ∷ []))) ≡ length (engines_words (take e c.engines)) + length (engines_words (engine_at c e ∷ [])) =
      rw (engines_append (take e c.engines) (engine_at c e ∷ [])) (length-append (engines_words (take e c.engines)) (engines_words (engine_at c e ∷ []))) in
      rw one (omega (arith, engine_length (engine_at c e) fits_at.counted))

  -- its head
  pub head_at : at (encode c) (start_of c e) ≡ head_word (as_node (engine_at c e).process)
  head_at = rw add-zero at (sym (get_or-drop (start_of c e) (encode c) 0 0) ∙ ap (λ l. get_or l 0 0) stands_at ∙ first_word (engine_at c e).process (words_after c e))

-- a process that may stand as a root is a scope unless its head is 0
pub root_head : {n issued : ℕ} {r : Run} → Sound n issued r → T (rootable r) → eqb (head_word (as_node r)) 0 ≡ not (is_scope r)
unfolding as_node is_scope is_done
root_head nil_sound t = refl
root_head (seq_sound a d q) t = absurd t
root_head (par_sound a d b d') t = absurd t
root_head (scope_sound {name} {mark} {zombie} b m h a) t = ne_eqb (scope_head name mark zombie) 0 (λ z. let k : kind_of (scope_head name mark zombie) ≡ 11 = scope_kind name mark zombie b in omega (arith, ap kind_of z))
root_head (executor_sound bo by e a) t = absurd t
root_head (waiter_sound bo bx e l) t = absurd t
root_head (notice_sound bo bf e) t = absurd t
root_head (act_sound i f) t = absurd t

-- What it is for a tree to fit the format: the conditions that the reader tests, by the tree's shape. Depth and length are kept apart.
-- A node fits in a stratum at a place; what is enabled is sound among n engines and the serials issued.
-- Assumes nothing.
use Prim.Native.Nat.{ℕ, zero, suc, ◌-◌, ◌≤◌, ◌<◌}
use mathlib.Core.Path.{◌≡◌}
use mathlib.Core.Bool.{Bool, true, false, not, ◌&&◌, ◌||◌}
use mathlib.Core.List.{List, [], ◌∷◌, ◌++◌}
use lib.Dec.{T, leb, ltb, eqb}
use lib.ListN.{length}
use Rattle.sock.specs.Kind
use Rattle.sock.specs.Kind.{Own, word, variables, row_of}
use Rattle.sock.specs.Words.{is_word, clear, kind_of}
use Rattle.sock.specs.Variables.{distinct}
use Rattle.sock.specs.Term.{Expr, constant, variable, apply, Operator, Node, node, Block, absent, list, Entries, no_entries, entry, Nodes, no_parts, ◌&◌, kind, processes_of}
use Rattle.sock.specs.Reading.{Stratum, code, Place, anywhere, not_nil, guard, root, head_fits, node_fits, entry_fits, end_fits, holds, entry_stratum}
use Rattle.sock.specs.Running.{Mark, unmarked, faulted, own_name, Run, nil, seq, par, scope, executor, waiter, notice, act}
use Rattle.sock.specs.Configuration.{Limits, Engine, Config, encode, engines_depth, is_scope}
use Rattle.sock.specs.Frames.{Frame, seq_frame, left_frame, right_frame, scope_frame, executor_frame, is_done}
use Rattle.sock.proofs.Parts.{part_stratum, part_place}

-- ---- nodes

pub data AllBelow (m : ℕ) : List ℕ → Type 0 where
  none_below : AllBelow m []
  one_below : {v : ℕ} {vs : List ℕ} → v < m → AllBelow m vs → AllBelow m (v ∷ vs)

pub data FitsExpr : Expr → Type 0 where
  constant_fits : {v : ℕ} → v < 4294967296 → FitsExpr (constant v)
  variable_fits : {x : ℕ} → x < 32 → FitsExpr (variable x)
  apply_fits : {o : Operator} {a b : Expr} → FitsExpr a → FitsExpr b → FitsExpr (apply o a b)

pub data FitsExprs : ℕ → List Expr → Type 0 where
  no_exprs : FitsExprs zero []
  one_expr : {n : ℕ} {e : Expr} {es : List Expr} → FitsExpr e → FitsExprs n es → FitsExprs (suc n) (e ∷ es)

pub data FitsFurther : ℕ → List ℕ → Type 0 where
  no_further : FitsFurther zero []
  one_further : {n w : ℕ} {v : List ℕ} → T (is_word w && clear 2048 w) → FitsFurther n v → FitsFurther (suc n) (w ∷ v)

pub data FitsFixed : List Own → List ℕ → Type 0 where
  no_fixed : FitsFixed [] []
  one_fixed : {m : ℕ} {os : List Own} {w : ℕ} {f : List ℕ} → T (is_word w && clear m w) → FitsFixed os f → FitsFixed (word m ∷ os) (w ∷ f)
  some_variables :
      {c : ℕ} {os : List Own} {v f : List ℕ} →
      T (ltb 0 c && leb c 4) →
      FitsFurther (c - 1) v →
      FitsFixed os f →
      FitsFixed (variables ∷ os) (c ∷ v ++ f)

mutual
  pub data Fits : Stratum → Place → Node → Type 0 where
    fits :
        {s : Stratum} {p : Place} {h : ℕ} {f : List ℕ} {es : List Expr} {b : Block} {ps : Nodes} →
        T (head_fits s p h) →
        FitsFixed (row_of (kind_of h)).fixed f →
        FitsExprs (row_of (kind_of h)).expressions es →
        FitsBlock (eqb (kind_of h) Kind.scope) (row_of (kind_of h)).lists b →
        FitsParts s (kind_of h) (processes_of h) ps →
        T (node_fits s h f b) →
        Fits s p (node h f es b ps)

  pub data FitsBlock : Bool → ℕ → Block → Type 0 where
    no_list : {ofScope : Bool} → FitsBlock ofScope zero absent
    a_list : {ofScope : Bool} {n : ℕ} {l : Entries} → FitsEntries ofScope zero l → FitsBlock ofScope (suc n) (list l)

  -- keys strictly rise from `least` on
  pub data FitsEntries : Bool → ℕ → Entries → Type 0 where
    empty_fits : {ofScope : Bool} {least : ℕ} → FitsEntries ofScope least no_entries
    entry_fits_on :
        {ofScope : Bool} {least k : ℕ} {p : Node} {es : Entries} →
        least ≤ k →
        k < 128 →
        T (entry_fits ofScope k p) →
        Fits (entry_stratum ofScope) anywhere p →
        FitsEntries ofScope (suc k) es →
        FitsEntries ofScope least (entry k p es)

  pub data FitsParts : Stratum → ℕ → ℕ → Nodes → Type 0 where
    no_part : {s : Stratum} {k : ℕ} → FitsParts s k zero no_parts
    one_part :
        {s : Stratum} {k n : ℕ} {p : Node} {ps : Nodes} →
        Fits (part_stratum s k n) (part_place k n) p →
        FitsParts s k n ps →
        FitsParts s k (suc n) (p & ps)

-- ---- what is enabled

-- the variables of a message: 1 to 4
pub record FitsVariables (xs : List ℕ) : Type 0 where
  pub some : 0 < length xs
  pub few : length xs ≤ 4
  pub below : AllBelow 32 xs

-- and those that receive: none twice
pub record FitsDistinct (xs : List ℕ) : Type 0 where
  pub fitting : FitsVariables xs
  pub apart : T (distinct xs)

-- mark 1 with a fault that the list holds; mark 2 only on a zombie
abbrev pub MarkFits : Mark → Bool → Entries → Type 0
MarkFits unmarked zombie h = Unit {0}
MarkFits (faulted f) zombie h = (f < 64) × T (holds f h)
MarkFits own_name zombie h = T zombie

-- neither nil, seq, par nor scope
abbrev pub is_plain : ℕ → Bool
is_plain k = not (eqb k Kind.nil || eqb k Kind.seq || eqb k Kind.par || eqb k Kind.scope)

pub data Sound (n issued : ℕ) : Run → Type 0 where
  nil_sound : Sound n issued nil
  seq_sound : {a : Run} {q : Node} → Sound n issued a → T (not (is_done a)) → Fits (code false) anywhere q → Sound n issued (seq a q)
  par_sound : {a b : Run} → Sound n issued a → T (not (is_done a)) → Sound n issued b → T (not (is_done b)) → Sound n issued (par a b)
  scope_sound :
      {name : ℕ} {mark : Mark} {zombie : Bool} {h : Entries} {a : Run} →
      name < 64 →
      MarkFits mark zombie h →
      FitsEntries true zero h →
      Sound n issued a →
      Sound n issued (scope name mark zombie h a)
  executor_sound :
      {o : ℕ} {y : List ℕ} {client serial : ℕ} {a : Run} →
      o < 64 →
      FitsVariables y →
      T (end_fits n issued client serial) →
      Sound n issued a →
      Sound n issued (executor o y client serial a)
  waiter_sound :
      {o : ℕ} {x : List ℕ} {server serial : ℕ} {dead : Bool} {l : Entries} →
      o < 64 →
      FitsDistinct x →
      T (end_fits n issued server serial) →
      FitsEntries false zero l →
      Sound n issued (waiter o x dead server serial l)
  notice_sound : {o f client serial : ℕ} → o < 64 → f < 64 → T (end_fits n issued client serial) → Sound n issued (notice o f client serial)
  act_sound : {p : Node} → T (is_plain (kind p)) → Fits (code false) anywhere p → Sound n issued (act p)

-- what may stand as an engine's process
abbrev pub rootable : Run → Bool
rootable r = is_done r || is_scope r

abbrev pub PlacedRun : Place → Run → Type 0
PlacedRun anywhere r = Unit {0}
PlacedRun not_nil r = T (not (is_done r))
PlacedRun guard r = ⊥
PlacedRun root r = T (rootable r)

pub data SoundFrame (n issued : ℕ) : Frame → Type 0 where
  seq_frame_sound : {q : Node} → Fits (code false) anywhere q → SoundFrame n issued (seq_frame q)
  left_frame_sound : {b : Run} → Sound n issued b → T (not (is_done b)) → SoundFrame n issued (left_frame b)
  right_frame_sound : {b : Run} → Sound n issued b → T (not (is_done b)) → SoundFrame n issued (right_frame b)
  scope_frame_sound :
      {name : ℕ} {mark : Mark} {zombie : Bool} {h : Entries} →
      name < 64 →
      MarkFits mark zombie h →
      FitsEntries true zero h →
      SoundFrame n issued (scope_frame name mark zombie h)
  executor_frame_sound :
      {o : ℕ} {y : List ℕ} {client serial : ℕ} → o < 64 → FitsVariables y → T (end_fits n issued client serial) → SoundFrame n issued (executor_frame o y client serial)

pub data SoundFrames (n issued : ℕ) : List Frame → Type 0 where
  no_frames : SoundFrames n issued []
  one_frame : {f : Frame} {fs : List Frame} → SoundFrame n issued f → SoundFrames n issued fs → SoundFrames n issued (f ∷ fs)

-- ---- configurations

pub record FitsEngine (n issued : ℕ) (e : Engine) : Type 0 where
  pub counted : length e.values ≡ 32
  pub bounded : AllBelow 4294967296 e.values
  pub sound : Sound n issued e.process
  pub placed : T (rootable e.process)

pub data FitsEngines (n issued : ℕ) : List Engine → Type 0 where
  no_engines : FitsEngines n issued []
  one_engine : {e : Engine} {es : List Engine} → FitsEngine n issued e → FitsEngines n issued es → FitsEngines n issued (e ∷ es)

pub record FitsConfig (c : Config) : Type 0 where
  pub some : zero < length c.engines
  pub few : length c.engines ≤ 8
  pub word : c.issued < 65536
  pub engines : FitsEngines (length c.engines) c.issued c.engines

-- within the limits too
pub record Readable (limits : Limits) (c : Config) : Type 0 where
  pub fitting : FitsConfig c
  pub shallow : engines_depth c.engines ≤ limits.deepest
  pub short : length (encode c) ≤ limits.longest

-- A step that delivers a serial by a reply: its executor stands in the words, with that serial and a nil body.
-- Assumes nothing.
use Prim.Native.Nat.{ℕ, ◌+◌, ◌*◌, ◌≤◌, ◌<◌}
use native.Mathlib.Omega.{arith}
use mathlib.Core.Path.{◌≡◌, refl, sym, subst, ap, ◌∙◌}
use mathlib.Core.Bool.{Bool, true, false, ◌||◌, cond}
use mathlib.Core.Option.{Option, some}
use mathlib.Core.List.{List, ◌∷◌, ◌++◌, append_assoc}
use borrow.Author.Tests.{eq-eqb, ne_eqb, lt-leb}
use lib.Dec.{T, eqb, eqb→eq}
use lib.ListN.{length, drop}
use Rattle.sock.specs.Kind
use Rattle.sock.specs.Kind.{rows, row_of}
use Rattle.sock.specs.Words.{kind_of, head_of, name_fields}
use Rattle.sock.specs.Variables.{first_of, variable_words, values_at}
use Rattle.sock.specs.Term.{Entries, kind, head_word}
use Rattle.sock.specs.Running.{Run, nil, seq, par, scope, executor, waiter, notice, act, as_node, run_words}
use Rattle.sock.specs.Configuration.{standard, Config, encode, read_config}
use Rattle.sock.specs.Frames.{Frame, is_done}
use Rattle.sock.specs.Rules.{Message, reply, failure, stuck, alone, sends, ending, move_of, once_done, Meeting, if_waits, awaited, Exchange, exchange}
use Rattle.sock.specs.Calls.{Numbers, done, meeting, Stepped}
use Rattle.sock.proofs.Logic.{and_left, and_right, All, all_none, all_some, all_guarded, all_some_lem}
use Rattle.sock.proofs.Fits.{FitsFixed, one_fixed, FitsConfig, Sound, nil_sound, seq_sound, par_sound, scope_sound, executor_sound, waiter_sound, notice_sound, act_sound}
use Rattle.sock.proofs.Fields.{head_kind, fields_below, fixed_fits, end_tests}
use Rattle.sock.proofs.Variables.{laid, list_fits}
use Rattle.sock.proofs.Measures.{words_executor}
use Rattle.sock.proofs.ByKind.{run_kind, kind_as_node, code_kind}
use Rattle.sock.proofs.Located.{Enabled, start_of, enabled_stands}
use Rattle.sock.proofs.Positions.{at_head, at_past}
use Rattle.sock.proofs.Steps.{sure_done_lem, enabled_fits}
use Rattle.sock.proofs.Configuration.{config_found}
use Rattle.sock.proofs.Taken.{Taken, taken_alone, taken_between, Accepts, step_accepts}
use Rattle.layout.specs.Own.{own_end}
use Rattle.layout.specs.Positions.{onward}
use Rattle.layout.proofs.Owns.{own_end_lem}
use Rattle.rules.specs.Rewriting.{at}
use Rattle.rules.proofs.Rewrites.{head_on}
use Rattle.rules.proofs.Edits.{done_nil}
use Rattle.keeper.specs.Game.{moved, delivers}
use Rattle.keeper.specs.Hopes.{ready_at}

pub record Ready (serial : ℕ) (ws : List ℕ) (place : ℕ) : Type 0 where
  pub inside : place < length ws
  pub ready : ready_at serial ws place ≡ true

-- ---- by the words

module _ (o : ℕ) (y : List ℕ) (client serial : ℕ) (a : Run) (ws : List ℕ) (short : length ws ≤ 8192) (i : ℕ) (rest : List ℕ)
    (stands : drop i ws ≡ run_words (executor o y client serial a) ++ rest) (d : is_done a ≡ true) where
  abbrev h : ℕ
  h = head_of 16 (name_fields o (first_of y))

  abbrev own : List ℕ
  own = (client * 8192) ∷ serial ∷ variable_words y

  laid_out : drop i ws ≡ (h ∷ own) ++ (run_words a ++ rest)
  laid_out = stands ∙ (ap (λ w. w ++ rest) (words_executor o y client serial a) ∙ append_assoc (h ∷ own) (run_words a) rest)

  body_word : (k : ℕ) → drop k ws ≡ run_words a ++ rest → at ws k ≡ 0
  unfolding run_words as_node
  body_word k e = head_on ws k (as_node a) rest e ∙ ap (λ (r : Run). head_word (as_node r)) (done_nil a d)

  executor_ready : {n issued : ℕ} → n ≤ 8 → issued < 65536 → Sound n issued (executor o y client serial a) → Ready serial ws i
  unfolding row_of rows ready_at onward
  executor_ready {n} {issued} few small (executor_sound bo by t g) =
      let k : kind_of h ≡ 16 = head_kind 16 (name_fields o (first_of y)) (fields_below o (first_of y) bo (laid y by).low) in
      let known = end_tests n issued client serial t in
      let fixed : FitsFixed (row_of 16).fixed own =
      one_fixed (fixed_fits 8192 (client * 8192) (omega (arith, known)) (omega arith)) (one_fixed (fixed_fits 1 serial (omega (arith, known)) (omega arith)) (list_fits y by)) in
      let ends : own_end ws i ≡ i + 1 + length own = own_end_lem ws {h = h} {f = own} (omega arith) (rw k fixed) i (run_words a ++ rest) laid_out in
      let past : drop (i + 1 + length own) ws ≡ run_words a ++ rest =
      ap (λ k. drop k ws) (let z : i + 1 + length own ≡ i + length (h ∷ own) = omega arith in z) ∙ at_past ws (h ∷ own) (run_words a ++ rest) i laid_out in
      let first = at_head ws i _ _ laid_out in
      let second = at_head ws (i + 1) _ _ first.next in
      let third = at_head ws (i + 1 + 1) _ _ second.next in
      let in_words_lem = first.inside in
      let kind_is : kind_of (at ws i) ≡ 16 = ap kind_of first.word ∙ k in
      let two : onward i 2 ≡ i + 1 + 1 = rw (lt-leb 1152921504606846976 i (omega arith)) (let z : i + 2 ≡ i + 1 + 1 = omega arith in z) in
      let serial_is : at ws (onward i 2) ≡ serial = ap (at ws) two ∙ third.word in
      let body : at ws (own_end ws i) ≡ 0 = ap (at ws) ends ∙ body_word (i + 1 + length own) past in
      record { inside = first.inside; ready = rw (eq-eqb (kind_of (at ws i)) 16 kind_is, eq-eqb (at ws (onward i 2)) serial serial_is, eq-eqb (at ws (own_end ws i)) 0 body) }

-- ---- by the rules

-- what holds of all that is made of a waiter
pub waits_any :
    {A : Type 0} {P : A → Type 0} (r : Run) {f : ℕ → List ℕ → Bool → ℕ → ℕ → Entries → Option A} →
    ((o : ℕ) (x : List ℕ) (dead : Bool) (server serial : ℕ) (l : Entries) → All P (f o x dead server serial l)) → All P (if_waits r f)
unfolding if_waits
waits_any nil h = all_none
waits_any (seq p q) h = all_none
waits_any (par p q) h = all_none
waits_any (scope name mark zombie l p) h = all_none
waits_any (executor o y client serial p) h = all_none
waits_any (waiter o x dead server serial l) h = h o x dead server serial l
waits_any (notice o g client serial) h = all_none
waits_any (act p) h = all_none

-- an executor's reply says its serial, a notice's fault that it is one
reply_says : (k : Meeting) (o client s : ℕ) (v : List ℕ) → All (λ (x : Exchange). x.serial ≡ s) (exchange k (reply o v client s))
unfolding exchange awaited
reply_says k o client s v = waits_any k.process λ op x dead server t l. all_guarded _ λ u. all_guarded _ λ g. all_some refl

fault_says : (k : Meeting) (o f client s : ℕ) → All (λ (x : Exchange). x.fault ≡ 1) (exchange k (failure o f client s))
unfolding exchange awaited
fault_says k o f client s = waits_any k.process λ op x dead server t l. all_guarded _ λ u. all_some refl

-- the kind of an executor or a notice
abbrev Delivering : ℕ → Type 0
Delivering k = T (eqb k Kind.executor || eqb k Kind.notice)

later_kind : (k : ℕ) → k < 15 → Delivering k → ⊥
later_kind k h t =
    let none : (eqb k 16 || eqb k 18) ≡ false = rw (ne_eqb k 16 (λ z. omega arith), ne_eqb k 18 (λ z. omega arith)) in
    subst T none t

apart : {A : Type 0} {m : Message} → stuck ≡ sends m → A
apart e = let q : ◌≡◌ {A = ℕ} 0 1 = cc in absurd (omega arith)

pub alone_apart : {A : Type 0} {m : Message} {vs : List ℕ} {o : Option Run} → alone vs o ≡ sends m → A
alone_apart e = let q : ◌≡◌ {A = ℕ} 0 1 = cc in absurd (omega arith)

-- once its body is nil
once_apart : {A : Type 0} {m : Message} (vs : List ℕ) (o : Option Run) (d : Bool) → cond d (alone vs o) stuck ≡ sends m → A
once_apart vs o true e = alone_apart e
once_apart vs o false e = apart e

pub once_sends : {m : Message} (m' : Message) (d : Bool) → cond d (sends m') stuck ≡ sends m → (d ≡ true) × (m' ≡ m)
once_sends m' true e = (refl, (cc))
once_sends m' false e = apart e

once_alone : {vs : List ℕ} {o : Option Run} (m : Message) (d : Bool) → cond d (sends m) stuck ≡ alone vs o → ⊥
once_alone m true e = let q : ◌≡◌ {A = ℕ} 0 1 = cc in omega arith
once_alone m false e = let q : ◌≡◌ {A = ℕ} 0 1 = cc in omega arith

pub same_message : (m m' : Message) → sends m ≡ sends m' → m ≡ m'
same_message m m' e = cc

-- who delivers by a reply
module _ (ws : List ℕ) (short : length ws ≤ 8192) (i : ℕ) (rest : List ℕ) (vs : List ℕ) (fs : List Frame) (met : Meeting) (m : Message) (x : Exchange)
    (gives : exchange met m ≡ some x) (calm : x.fault ≡ 0) where
  sender_ready :
      {n issued : ℕ} {r : Run} → n ≤ 8 → issued < 65536 → Sound n issued r → drop i ws ≡ run_words r ++ rest → move_of vs fs r ≡ sends m → Delivering (kind (as_node r)) → Ready x.serial ws i
  unfolding move_of once_done as_node
  sender_ready few small nil_sound stood e k = apart e
  sender_ready few small (seq_sound g t p) stood e k = apart e
  sender_ready few small (par_sound g t h u) stood e k = apart e
  sender_ready few small (scope_sound {name} {mark} {zombie} {h} {a = p} g y f t) stood e k = once_apart vs (some (ending name mark zombie h fs)) (is_done p) e
  sender_ready few small (executor_sound {o} {y} {client} {serial} {a = p} bo by t g) stood e k =
      let (d, is) = once_sends (reply o (values_at vs y) client serial) (is_done p) e in
      let says : x.serial ≡ serial = all_some_lem (reply_says met o client serial (values_at vs y)) (ap (exchange met) is ∙ gives) in
      subst (λ (s : ℕ). Ready s ws i) (sym says) (executor_ready o y client serial p ws short i rest stood d few small (executor_sound bo by t g))
  sender_ready few small (waiter_sound bo bx t l) stood e k = apart e
  sender_ready few small (notice_sound {o} {f} {client} {serial} bo bf t) stood e k =
      let says : x.fault ≡ 1 = all_some_lem (fault_says met o f client serial) (ap (exchange met) (same_message _ m e) ∙ gives) in
      absurd (omega arith)
  sender_ready few small (act_sound {p} j f) stood e k =
      let low : kind p < 15 = code_kind f in
      absurd (later_kind (kind p) low k)

-- what moves alone is neither
alone_quiet : {n issued : ℕ} {r : Run} (vs ws : List ℕ) (fs : List Frame) (o : Option Run) → Sound n issued r → move_of vs fs r ≡ alone ws o → Delivering (kind (as_node r)) → ⊥
unfolding move_of once_done
alone_quiet {n} {issued} {r} vs ws fs o g e k = by g e (subst Delivering (kind_as_node g) k)
  where
    by : {r : Run} → Sound n issued r → move_of vs fs r ≡ alone ws o → Delivering (run_kind r) → ⊥
    by nil_sound e k = k
    by (seq_sound g t p) e k = k
    by (par_sound g t h u) e k = k
    by (scope_sound g h f t) e k = k
    by (executor_sound {o} {y} {client} {serial} {a = p} bo bb t g) e k = once_alone (reply o (values_at vs y) client serial) (is_done p) e
    by (waiter_sound bo bx t l) e k = k
    by (notice_sound bo bf t) e k = let q : ◌≡◌ {A = ℕ} 0 1 = cc in omega arith
    by (act_sound {p} j f) e k =
        let low : kind p < 15 = code_kind f in
        later_kind (kind p) low k

-- A delivery by a reply has its executor in the words, where the first engine and position say
pub reply_ready :
    (ws : List ℕ) (k : Numbers) (x : Stepped) (serial : ℕ) → moved ws k ≡ done x → T (delivers serial x) → x.fault ≡ 0 → (c : Config) → read_config standard ws ≡ some c →
    Ready serial ws (start_of c k.engine + k.position)
unfolding moved delivers
reply_ready ws k x serial d t calm c reads =
    let a : Accepts standard ws k 8192 x = sure_done_lem (step_accepts standard ws k 8192) d in
    let one : a.config ≡ c = (let r = a.reads in cc) in
    let (same, r) = config_found standard ws c reads in
    let is : x.serial ≡ serial = eqb→eq x.serial serial (and_right (eqb x.kind 16 || eqb x.kind 18) (eqb x.serial serial) t) in
    subst (λ (s : ℕ). Ready s ws (start_of c k.engine + k.position)) is
    (by same r.fitting (omega (arith, ap length same, r.short)) (and_left (eqb x.kind 16 || eqb x.kind 18) (eqb x.serial serial) t) calm (subst (λ (c : Config). Taken c k x) one a.taken))
  where
    by : encode c ≡ ws → FitsConfig c → length ws ≤ 8192 → {s : Stepped} → Delivering s.kind → s.fault ≡ 0 → Taken c k s → Ready s.serial ws (start_of c k.engine + k.position)
    by same f short kd calm (taken_alone a vs p at e t) =
        absurd (alone_quiet a.values vs a.frames (some p) (all_some_lem (enabled_fits f k.engine k.position) at).process e kd)
    by same f short kd calm (taken_between a b m y at e meets t q) =
        let stood : Enabled c k.engine k.position a = enabled_stands c k.engine k.position a f at in
        let begins = subst (λ (us : List ℕ). drop (start_of c k.engine + k.position) us ≡ run_words a.process ++ stood.stands.rest) same stood.stands.begins in
        sender_ready ws short (start_of c k.engine + k.position) stood.stands.rest a.values a.frames (meeting c k a b) m y q calm
        f.few f.word (all_some_lem (enabled_fits f k.engine k.position) at).process begins e kd

-- the configuration that an accepted step read
pub was_read : (ws : List ℕ) (k : Numbers) (x : Stepped) → moved ws k ≡ done x → (c : Config) × (read_config standard ws ≡ some c)
unfolding moved
was_read ws k x d = let a : Accepts standard ws k 8192 x = sure_done_lem (step_accepts standard ws k 8192) d in (a.config, a.reads)

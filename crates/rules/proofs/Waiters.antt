-- A waiter on words: what a solicit turns into, whether a message is for it, and what a reply and a fault make of it.
-- Assumes nothing.
use Prim.Native.Nat.{ℕ, ◌+◌, ◌*◌, ◌%◌, ◌≤◌, ◌<◌}
use native.Mathlib.Omega.{arith}
use mathlib.Core.Path.{◌≡◌, refl, sym, ap, ◌∙◌}
use mathlib.Core.Bool.{Bool, true, false, ◌&&◌, cond}
use mathlib.Core.Option.{Option, none}
use mathlib.Core.List.{List, [], ◌∷◌, ◌++◌, append-nil, append_assoc}
use borrow.Author.Tests.{eq-eqb, ne_eqb}
use lib.Dec.{T, eqb}
use lib.ListN.{length, drop, set, length-append}
use Rattle.sock.specs.Words.{kind_of, name_of, second_of, next_variable, first_name, dead_of, waiters_server, bit, head_of, name_fields}
use Rattle.sock.specs.Variables.{first_of, variable_words}
use Rattle.sock.specs.Term.{Node, node, list, Entries, no_parts}
use Rattle.sock.specs.Layout.{words, entries_words, count, depth, exprs_words, exprs_depth}
use Rattle.sock.specs.Reading.{code, anywhere, end_fits}
use Rattle.sock.specs.Running.{Run, nil, seq, par, scope, executor, waiter, notice, act, as_node, run_words, size, run_depth}
use Rattle.sock.specs.Frames.{is_done}
use Rattle.sock.specs.Configuration.{guarded}
use Rattle.sock.specs.Rules.{Meeting, if_waits, awaited, inst_of, throw_of, Exchange}
use Rattle.sock.proofs.Fits.{FitsVariables, Fits, Sound, nil_sound, seq_sound, par_sound, scope_sound, executor_sound, waiter_sound, notice_sound, act_sound}
use Rattle.sock.proofs.Fields.{turned_round, head_kind, fields_below, name_of_lem, second_of_lem, server_of, end_tests}
use Rattle.sock.proofs.ByKind.{run_kind, kind_as_node, code_kind}
use Rattle.sock.proofs.Measures.{words_act, words_waiter, depth_nil, depth_act, depth_waiter}
use Rattle.sock.proofs.Positions.{at_past}
use Rattle.sock.proofs.Variables.{laid}
use Rattle.layout.specs.Own.{variables_end, lists_end}
use Rattle.skipping.proofs.Skips.{code_end, run_end}
use Rattle.writers.proofs.Laid.{Near, laid_put}
use Rattle.layout.specs.Kinds.{counted_as}
use Rattle.layout.proofs.Named.{counted_not}
use Rattle.rules.specs.Storing.{Store}
use Rattle.rules.specs.Storing.{unchanged}
use Rattle.rules.specs.Rewriting.{rewritten, vanishing, keeping, at, part_end}
use Rattle.layout.specs.Heads.{waiter_head, throw_head}
use Rattle.rules.specs.Offering.{receives_w, ask_w, waits_w, awaits_w, answer_w, fail_w}
use Rattle.rules.proofs.Rewrites.{becomes_nil, head_on}
use Rattle.rules.proofs.Shapes.{Headed}
use Rattle.rules.proofs.Messages.{Listed, words_counted, ends_at}
use Rattle.rules.proofs.Exchanges.{Takes, keeps, three_to_lem, three_laid, first_place}

server_word : (server : ℕ) → server * 4096 ≡ bit false * 32768 + server * 4096
server_word server = omega arith

-- the list's words, behind those of its own
abbrev listed : Entries → List ℕ
listed l = count l ∷ entries_words l

pub fields : {n issued o server serial : ℕ} {x : List ℕ} {dead : Bool} {l : Entries} → Sound n issued (waiter o x dead server serial l) →
    (o < 64) × FitsVariables x × T (end_fits n issued server serial)
fields (waiter_sound a b e f) = (a, b.fitting, e)

first_low : {x : List ℕ} → FitsVariables x → first_of x < 32
first_low {x} f = (laid x f).low

module _ (n issued : ℕ) (ws : List ℕ) (few : n ≤ 8) (small : issued < 65536) (rest : List ℕ) where
  -- ---- a solicit

  module _ (h w : ℕ) (y x : List ℕ) (front : Headed (second_of h) y) (back : Headed (next_variable w) x) (l : Entries) where
    abbrev m : Node
    m = node h (w ∷ variable_words y ++ variable_words x) [] (list l) no_parts

    -- its words up to those that it keeps, and these
    abbrev given : List ℕ
    given = h ∷ w ∷ variable_words y

    abbrev stays : List ℕ
    stays = variable_words x ++ listed l

    asks_words : words m ≡ given ++ stays
    unfolding words exprs_words
    asks_words =
        ap (λ a. h ∷ w ∷ ((variable_words y ++ variable_words x) ++ (count l ∷ a))) (append-nil (entries_words l))
        ∙ ap (λ a. h ∷ w ∷ a) (append_assoc (variable_words y) (variable_words x) (listed l))

    module _ (f : Fits (code false) anywhere m) (deep : depth m ≤ 64) (stands : ws ≡ words m ++ rest) where
      asks_full : ws ≡ h ∷ w ∷ (variable_words y ++ (stays ++ rest))
      asks_full = stands ∙ (ap (λ a. a ++ rest) asks_words ∙ append_assoc given stays rest)

      asks_end : part_end ws 0 ≡ length given + length stays
      asks_end = code_end ws f 64 0 deep rest stands ∙ omega (arith, ap length asks_words ∙ length-append given stays)

      -- its two lists
      pub asks_front : Listed ws 2 y
      asks_front = record { fitting = front.fitting; behind = stays ++ rest; stands = ap (drop 2) asks_full }

      pub asks_back : Listed ws (variables_end ws 2) x
      asks_back =
          record {
            fitting = back.fitting;
            behind = listed l ++ rest;
            stands =
                ap (λ k. drop k ws) (ends_at asks_front ∙ ap (λ k. 2 + k) (sym (words_counted y)))
                ∙ at_past ws (variable_words y) (stays ++ rest) 2 (ap (drop 2) asks_full)
                ∙ append_assoc (variable_words x) (listed l) rest;
          }

      asks_from : variables_end ws 2 ≡ length given
      asks_from = ends_at asks_front ∙ omega (arith, words_counted y)

      pub ask_rewrites :
          (server serial : ℕ) → server < 8 → (fresh : List ℕ) → Near (length fresh) → 3 ≤ length fresh →
          Takes (act m) (waiter (name_of h) x false server serial l) (ask_w ws server serial fresh).rewriting (ask_w ws server serial fresh).fresh unchanged
      unfolding ask_w lists_end is_done depth exprs_depth
      ask_rewrites server serial known fresh near room =
          let three_bits : server % 8 ≡ server = omega arith in
          let first : at ws 0 ≡ h = ap (λ a. at a 0) asks_full in
          let second : at ws 1 ≡ w = ap (λ a. at a 1) asks_full in
          let mine : run_words (act m) ≡ given ++ (stays ++ []) = words_act m ∙ (asks_words ∙ ap (λ a. given ++ a) (sym (append-nil stays))) in
          let q = waiter (name_of h) x false server serial l in
          let made : run_words q ≡ (waiter_head h w ∷ (server * 4096) ∷ serial ∷ []) ++ stays =
          words_waiter (name_of h) x false server serial l
          ∙ (ap (λ k. head_of 17 (name_fields (name_of h) k) ∷ (bit false * 32768 + server * 4096) ∷ serial ∷ stays) back.begins
          ∙ ap (λ k. waiter_head h w ∷ k ∷ serial ∷ stays) (sym (server_word server))) in
          rw (first, second, asks_from, asks_end, three_bits, three_to_lem fresh 0 near (omega arith))
          (record {
            becomes =
                keeps (act m) q 3 (length given) (length given + length stays) (length given + length stays) unchanged given stays []
                (waiter_head h w ∷ (server * 4096) ∷ serial ∷ []) refl mine made
                (three_laid fresh 0 near (omega arith) (waiter_head h w) (server * 4096) serial) room refl refl refl (omega arith);
            takes = refl;
            shallow = omega (arith, depth_waiter (name_of h) x false server serial l, depth_act m);
          })

  -- ---- a waiter

  module _ {o server serial : ℕ} {x : List ℕ} {dead : Bool} {l : Entries} (s : Sound n issued (waiter o x dead server serial l))
      (stands : ws ≡ run_words (waiter o x dead server serial l) ++ rest) where
    abbrev r : Run
    r = waiter o x dead server serial l

    abbrev own : List ℕ
    own = head_of 17 (name_fields o (first_of x)) ∷ (bit dead * 32768 + server * 4096) ∷ serial ∷ variable_words x

    waits_words : run_words r ≡ own ++ listed l
    waits_words = words_waiter o x dead server serial l

    full : ws ≡ head_of 17 (name_fields o (first_of x)) ∷ (bit dead * 32768 + server * 4096) ∷ serial ∷ (variable_words x ++ (listed l ++ rest))
    full = stands ∙ (ap (λ a. a ++ rest) waits_words ∙ append_assoc own (listed l) rest)

    below : server < 8
    below = omega (arith, end_tests n issued server serial (fields s).2)

    first_word : at ws 0 ≡ head_of 17 (name_fields o (first_of x))
    first_word = ap (λ a. at a 0) full

    pub waits_first : second_of (at ws 0) ≡ first_of x
    waits_first = ap second_of first_word ∙ second_of_lem 17 o (first_of x) (first_low (fields s).1)

    second_word : at ws 1 ≡ bit dead * 32768 + server * 4096
    second_word = ap (λ a. at a 1) full

    third_word : at ws 2 ≡ serial
    third_word = ap (λ a. at a 2) full

    pub waits_list : Listed ws 3 x
    waits_list = record { fitting = (fields s).1; behind = listed l ++ rest; stands = ap (drop 3) full }

    kept_from : variables_end ws 3 ≡ length own
    kept_from = ends_at waits_list ∙ omega (arith, words_counted x)

    module _ (deep : run_depth r ≤ 64) where
      waits_end : part_end ws 0 ≡ length own + length (listed l)
      unfolding size
      waits_end = run_end ws n issued few small s 64 0 deep rest stands ∙ omega (arith, ap length waits_words ∙ length-append own (listed l))

      pub answer_rewrites :
          (store : Store) (fresh : List ℕ) → 1 ≤ length fresh →
          Takes r (act (inst_of l)) (answer_w ws store fresh).rewriting (answer_w ws store fresh).fresh store
      unfolding answer_w is_done words exprs_words depth exprs_depth
      answer_rewrites store fresh room =
          let mine : run_words r ≡ own ++ (listed l ++ []) = waits_words ∙ ap (λ a. own ++ a) (sym (append-nil (listed l))) in
          let made : run_words (act (inst_of l)) ≡ (24576 ∷ []) ++ listed l = words_act (inst_of l)
          ∙ ap (λ a. 24576 ∷ count l ∷ a) (append-nil (entries_words l)) in
          rw (waits_end, first_place)
          (record {
            becomes =
                keeps r (act (inst_of l)) 1 (variables_end ws 3) (length own + length (listed l)) (length own + length (listed l)) store own (listed l) []
                (24576 ∷ []) refl mine made
                (laid_put fresh 0 24576 (omega arith)) room refl kept_from (omega (arith, kept_from)) (omega arith);
            takes = refl;
            shallow = omega (arith, depth_waiter o x dead server serial l, depth_act (inst_of l));
          })

      is_dead : eqb (dead_of (bit dead * 32768 + server * 4096)) 1 ≡ dead
      is_dead = by dead
        where
          by : (d : Bool) → eqb (dead_of (bit d * 32768 + server * 4096)) 1 ≡ d
          by true = eq-eqb (dead_of (bit true * 32768 + server * 4096)) 1 (omega (arith, below))
          by false = ne_eqb (dead_of (bit false * 32768 + server * 4096)) 1 (λ z. omega (arith, below))

      pub fail_rewrites :
          (w : ℕ) (fresh : List ℕ) → 1 ≤ length fresh →
          Takes r (cond dead nil (act (throw_of (first_name w)))) (fail_w ws w fresh).rewriting (fail_w ws w fresh).fresh unchanged
      unfolding fail_w is_done words exprs_words depth exprs_depth
      fail_rewrites w fresh room = rw (second_word, is_dead, waits_end, first_place) (by dead)
        where
          by :
              (d : Bool) →
              (let e = length own + length (listed l) in
              let t = cond d (rewritten (vanishing unchanged) fresh) (rewritten (keeping 1 e e e unchanged) (set fresh 0 (throw_head w))) in
              Takes r (cond d nil (act (throw_of (first_name w)))) t.rewriting t.fresh unchanged)
          by true =
              let d : run_depth nil ≤ run_depth r = omega (arith, depth_nil, depth_waiter o x dead server serial l) in
              record { becomes = becomes_nil r unchanged fresh; takes = refl; shallow = d }
          by false =
              let mine : run_words r ≡ run_words r ++ ([] ++ []) = sym (append-nil (run_words r)) in
              let made : run_words (act (throw_of (first_name w))) ≡ (throw_head w ∷ []) ++ [] = words_act (throw_of (first_name w)) in
              let e : length (run_words r) ≡ length own + length (listed l) = ap length waits_words ∙ length-append own (listed l) in
              record {
                becomes =
                    keeps r (act (throw_of (first_name w))) 1 (length own + length (listed l)) (length own + length (listed l)) (length own + length (listed l)) unchanged
                    (run_words r) [] [] (throw_head w ∷ []) refl mine made
                    (laid_put fresh 0 (throw_head w) (omega arith)) room refl (sym e) (omega arith) (omega arith);
                takes = refl;
                shallow = omega (arith, depth_waiter o x dead server serial l, depth_act (throw_of (first_name w)));
              }

-- ---- whether a message is for what stands there

-- the test says true: a waiter that the message is for; false: none
pub data Awaits (b : Bool) (what : (List ℕ → Bool → Entries → Option Exchange) → Option Exchange) : Run → Type 0 where
  awaiting :
      {o server serial : ℕ} {x : List ℕ} {dead : Bool} {l : Entries} →
      b ≡ true → ((k : List ℕ → Bool → Entries → Option Exchange) → what k ≡ k x dead l) →
      Awaits b what (waiter o x dead server serial l)
  elsewhere : {r : Run} → b ≡ false → ((k : List ℕ → Bool → Entries → Option Exchange) → what k ≡ none) → Awaits b what r

nested : (a b c d : Bool) → cond a (cond b (cond (cond c true false) d false) false) false ≡ (true && d && c && a && b)
nested true true true true = refl
nested true true true false = refl
nested true true false true = refl
nested true true false false = refl
nested true false true true = refl
nested true false true false = refl
nested true false false true = refl
nested true false false false = refl
nested false true true true = refl
nested false true true false = refl
nested false true false true = refl
nested false true false false = refl
nested false false true true = refl
nested false false true false = refl
nested false false false true = refl
nested false false false false = refl

module _ (ws rest : List ℕ) (h serial client sender receiver : ℕ) where
  -- no waiter
  not_waiting : (r : Run) → ws ≡ run_words r ++ rest → (kind_of (at ws 0) ≡ 17 → ⊥) → awaits_w ws h serial client sender receiver ≡ false
  unfolding awaits_w waits_w receives_w
  not_waiting r stands never = rw (ne_eqb (counted_as (kind_of (at ws 0))) 17 (counted_not never (omega arith))) (by (eqb client receiver) (eqb (waiters_server (at ws 1)) sender))
    where
      by : (a b : Bool) → cond a (cond b false false) false ≡ false
      by true true = refl
      by true false = refl
      by false b = refl

  module _ (n issued : ℕ) (few : n ≤ 8) (vs : List ℕ) where
    -- who meets, where the branch is 0
    abbrev met : Run → Meeting
    met r = record { issued = issued; sender = sender; receiver = receiver; values = vs; process = r; branch = 0 }

    other : (r : Run) → Sound n issued r → ws ≡ run_words r ++ rest → (run_kind r ≡ 17 → ⊥) →
        awaits_w ws h serial client sender receiver ≡ false
    unfolding run_words
    other r s stands never = not_waiting r stands λ e. never (sym (ap kind_of (head_on ws 0 (as_node r) rest stands) ∙ kind_as_node s) ∙ e)

    module _ {o server number : ℕ} {x : List ℕ} {dead : Bool} {l : Entries} (s : Sound n issued (waiter o x dead server number l))
        (stands : ws ≡ run_words (waiter o x dead server number l) ++ rest) where
      abbrev test : Bool
      test = eqb 0 0 && eqb serial number && eqb (name_of h) o && eqb client receiver && eqb server sender

      tested : awaits_w ws h serial client sender receiver ≡ test
      unfolding awaits_w waits_w receives_w
      tested =
          let whole : ws ≡ head_of 17 (name_fields o (first_of x)) ∷ (bit dead * 32768 + server * 4096) ∷ number ∷ ((variable_words x ++ listed l) ++ rest) =
          stands ∙ ap (λ a. a ++ rest) (words_waiter o x dead server number l) in
          let first : at ws 0 ≡ head_of 17 (name_fields o (first_of x)) = ap (λ a. at a 0) whole in
          let second : at ws 1 ≡ bit dead * 32768 + server * 4096 = ap (λ a. at a 1) whole in
          let third : at ws 2 ≡ number = ap (λ a. at a 2) whole in
          let b = fields s in
          let five_bits = first_low b.1 in
          let low : server < 8 = omega (arith, end_tests n issued server number b.2) in
          rw (
            first,
            second,
            third,
            head_kind 17 (name_fields o (first_of x)) (fields_below o (first_of x) b.0 five_bits),
            name_of_lem 17 o (first_of x) b.0 five_bits,
            server_of (bit dead) server low,
            turned_round o (name_of h),
            turned_round number serial,
          )
          (nested (eqb client receiver) (eqb server sender) (eqb (name_of h) o) (eqb serial number))

      for_waiter : Awaits (awaits_w ws h serial client sender receiver) (awaited (met (waiter o x dead server number l)) (name_of h) client serial) (waiter o x dead server number l)
      unfolding awaited if_waits guarded
      for_waiter = by test refl
        where
          by :
              (b : Bool) → test ≡ b →
              Awaits (awaits_w ws h serial client sender receiver) (awaited (met (waiter o x dead server number l)) (name_of h) client serial)
              (waiter o x dead server number l)
          by true e = awaiting (tested ∙ e) (λ k. ap (λ b. guarded b (k x dead l)) e)
          by false e = elsewhere (tested ∙ e) (λ k. ap (λ b. guarded b (k x dead l)) e)

    -- whether an end with the head h in the engine `sender`, naming `client` and that serial, is for r in the engine `receiver`
    pub awaits : (r : Run) → Sound n issued r → ws ≡ run_words r ++ rest →
        Awaits (awaits_w ws h serial client sender receiver) (awaited (met r) (name_of h) client serial) r
    unfolding awaited if_waits
    awaits r nil_sound stands = elsewhere (other r nil_sound stands λ e. omega arith) (λ k. refl)
    awaits r (seq_sound a d q) stands = elsewhere (other r (seq_sound a d q) stands λ e. omega arith) (λ k. refl)
    awaits r (par_sound a d b t) stands = elsewhere (other r (par_sound a d b t) stands λ e. omega arith) (λ k. refl)
    awaits r (scope_sound b m l a) stands = elsewhere (other r (scope_sound b m l a) stands λ e. omega arith) (λ k. refl)
    awaits r (executor_sound b y t a) stands = elsewhere (other r (executor_sound b y t a) stands λ e. omega arith) (λ k. refl)
    awaits r (notice_sound b f t) stands = elsewhere (other r (notice_sound b f t) stands λ e. omega arith) (λ k. refl)
    awaits r (act_sound t f) stands = elsewhere (other r (act_sound t f) stands λ e. omega (arith, code_kind f)) (λ k. refl)
    awaits r (waiter_sound b x t l) stands = for_waiter (waiter_sound b x t l) stands

-- with another branch there is none
pub awaited_branch :
    (m : Meeting) (o client serial : ℕ) (k : List ℕ → Bool → Entries → Option Exchange) → (m.branch ≡ 0 → ⊥) → awaited m o client serial k ≡ none
unfolding awaited if_waits guarded
awaited_branch m o client serial k other = by m.process
  where
    none_of : (op s server : ℕ) → eqb m.branch 0 && eqb serial s && eqb o op && eqb client m.receiver && eqb server m.sender ≡ false
    none_of op s server = rw (ne_eqb m.branch 0 other)

    by : (r : Run) → if_waits r (λ op x dead server s l. guarded (eqb m.branch 0 && eqb serial s && eqb o op && eqb client m.receiver && eqb server m.sender) (k x dead l)) ≡ none
    by nil = refl
    by (seq p q) = refl
    by (par p q) = refl
    by (scope name mark zombie h p) = refl
    by (executor op y c s p) = refl
    by (waiter op x dead server s l) = ap (λ b. guarded b (k x dead l)) (none_of op s server)
    by (notice op f c s) = refl
    by (act p) = refl

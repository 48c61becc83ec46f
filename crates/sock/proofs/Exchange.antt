-- Each rule for two keeps both processes sound among the serials then issued.
-- Assumes nothing.
use Prim.Native.Nat.{ℕ, zero, suc, ◌+◌, ◌*◌, ◌/◌, ◌%◌, ◌≤◌, ◌<◌}
use native.Mathlib.Omega.{arith}
use native.Mathlib.Nat.{mod-lt, le_refl, le_trans}
use mathlib.Core.Path.{◌≡◌, subst, sym}
use mathlib.Core.Bool.{Bool, false, not, ◌&&◌, ◌||◌, cond}
use mathlib.Core.Option.{Option}
use mathlib.Core.List.{List, []}
use lib.Dec.{T, leb, ltb, eqb, eqb→eq, lit<}
use Rattle.sock.specs.Kind
use Rattle.sock.specs.Kind.{row_of, rows}
use Rattle.sock.specs.Words.{kind_of, count_of, name_of, mark_of, zombie_of, first_variable, first_name, clear, head_of}
use Rattle.sock.specs.Variables.{head_variables, later_variables, distinct}
use Rattle.sock.specs.Term.{Node, node, absent, Entries, no_entries, Nodes, no_parts, part_at, processes_of}
use Rattle.sock.specs.Reading.{code, anywhere, allowed, placed, branched, head_fits, fields_fit, receives_in, node_fits, end_fits, resting_fits, fixed_at, ◌⇒◌}
use Rattle.sock.specs.Running.{Run, act}
use Rattle.sock.specs.Configuration.{guarded}
use Rattle.sock.specs.Frames.{Frame}
use Rattle.sock.specs.Rules.{Message, Receiver, deaf, hears, serves, receiver, Offer, chosen, bare, offered, offer, followed, Meeting, if_hears, if_serves, if_waits, awaited, inst_of, throw_of, Exchange, exchange}
use Rattle.sock.proofs.Logic.{cond-case, All, all_none, all_some, all_guarded}
use Rattle.sock.proofs.Fits.{FitsFixed, FitsExprs, FitsBlock, FitsParts, FitsVariables, FitsDistinct, is_plain, Fits, fits, no_fixed, no_exprs, no_list, a_list, no_part, FitsEntries, Sound, nil_sound, seq_sound, par_sound, scope_sound, executor_sound, waiter_sound, notice_sound, act_sound, SoundFrame, seq_frame_sound, left_frame_sound, right_frame_sound, scope_frame_sound, executor_frame_sound, SoundFrames, no_frames, one_frame}
use Rattle.sock.proofs.Fields.{end_tests, end_fits_lem}
use Rattle.sock.proofs.Nodes.{head_fits_lem, distinct_test, receives_none, node_fits_lem, part_fits, fixed_word}
use Rattle.sock.proofs.Variables.{later_list, one_way_list, request_list}
use Rattle.sock.proofs.Running.{enable_sound}
use Rattle.sock.proofs.Frames.{seq_of_sound}
use Rattle.sock.proofs.Rules.{FitValues, values_set_all, FitsMessage, notification_fits, solicitation_fits, reply_fits, failure_fits}

-- ---- more engines, more serials

module _ {n n' issued issued' : ℕ} (w : n ≤ n') (h : issued ≤ issued') where
  end_later : (engine serial : ℕ) → T (end_fits n issued engine serial) → T (end_fits n' issued' engine serial)
  end_later engine serial t =
      let e = end_tests n issued engine serial t in
      let b : engine < n' = le_trans e.below w in
      let g : serial ≤ issued' = le_trans e.given h in
      end_fits_lem (record { below = b; positive = e.positive; given = g })

  pub sound_later : {r : Run} → Sound n issued r → Sound n' issued' r
  sound_later nil_sound = nil_sound
  sound_later (seq_sound g t q) = seq_sound (sound_later g) t q
  sound_later (par_sound g t k u) = par_sound (sound_later g) t (sound_later k) u
  sound_later (scope_sound a m c g) = scope_sound a m c (sound_later g)
  sound_later (executor_sound {client = c} {serial = s} o y e g) = executor_sound o y (end_later c s e) (sound_later g)
  sound_later (waiter_sound {server = c} {serial = s} o x e l) = waiter_sound o x (end_later c s e) l
  sound_later (notice_sound {client = c} {serial = s} o f e) = notice_sound o f (end_later c s e)
  sound_later (act_sound t g) = act_sound t g

  frame_later : {f : Frame} → SoundFrame n issued f → SoundFrame n' issued' f
  frame_later (seq_frame_sound q) = seq_frame_sound q
  frame_later (left_frame_sound g t) = left_frame_sound (sound_later g) t
  frame_later (right_frame_sound g t) = right_frame_sound (sound_later g) t
  frame_later (scope_frame_sound a m c) = scope_frame_sound a m c
  frame_later (executor_frame_sound {client = c} {serial = s} o y e) = executor_frame_sound o y (end_later c s e)

  pub frames_later : {fs : List Frame} → SoundFrames n issued fs → SoundFrames n' issued' fs
  frames_later no_frames = no_frames
  frames_later (one_frame f fs) = one_frame (frame_later f) (frames_later fs)

-- ---- receivers

pub data FitsReceiver : Receiver → Type 0 where
  deaf_fits : FitsReceiver deaf
  hears_fits : {o : ℕ} {x : List ℕ} → o < 64 → FitsDistinct x → FitsReceiver (hears o x)
  serves_fits :
      {o : ℕ} {x y : List ℕ} {p : Node} → o < 64 → FitsDistinct x → FitsVariables y → Fits (code false) anywhere p → FitsReceiver (serves o x y p)

receiver_fits : {p : Node} → Fits (code false) anywhere p → FitsReceiver (receiver p)
unfolding receiver row_of rows
receiver_fits (fits {h = h} {f = f} {b = b} {ps = ps} t x e y qs g) =
    cond-case FitsReceiver (eqb (kind_of h) Kind.one_way) (λ u. hears_fits name (hearing (eqb→eq (kind_of h) 7 u)))
    (λ u. cond-case FitsReceiver (eqb (kind_of h) Kind.request) (λ v. serving (eqb→eq (kind_of h) 8 v)) (λ v. deaf_fits))
  where
    name : name_of h < 64
    name = mod-lt (h / 32) (lit< tt)

    twice : T (distinct (receives_in h f))
    twice = distinct_test (code false) h f b g

    hearing : kind_of h ≡ 7 → FitsDistinct (head_variables 0 h f)
    hearing k = one_way_list h f twice k (rw k at x)

    reply_y : first_variable (fixed_at f 0) < 32
    reply_y = let w : fixed_at f 0 < 65536 = fixed_word x 0 in omega arith

    serving : kind_of h ≡ 8 → FitsReceiver (serves (name_of h) (head_variables 1 h f) (later_variables (first_variable (fixed_at f 0)) f) (part_at ps 0))
    serving k =
        let own : FitsFixed (row_of 8).fixed f = rw k at x in
        serves_fits name (request_list h f twice k own) (later_list (first_variable (fixed_at f 0)) reply_y own) (part_fits qs 0)

pub record FitsOffer (o : Offer) : Type 0 where
  pub receives : FitsReceiver o.receives
  pub next : All (Fits (code false) anywhere) o.next

chosen_fits : {k n : ℕ} {ps : Nodes} (count i : ℕ) → FitsParts (code false) k n ps → FitsOffer (chosen count ps i)
unfolding chosen
chosen_fits count zero qs = record { receives = deaf_fits; next = all_none }
chosen_fits count (suc i) qs =
    cond-case FitsOffer (ltb i count)
    (λ t. record { receives = receiver_fits (part_fits qs (2 * i)); next = all_some (part_fits qs (2 * i + 1)) })
    (λ t. record { receives = deaf_fits; next = all_none })

bare_fits : {p : Node} (i : ℕ) → Fits (code false) anywhere p → FitsOffer (bare p i)
unfolding bare
bare_fits zero g = record { receives = receiver_fits g; next = all_none }
bare_fits (suc i) g = record { receives = deaf_fits; next = all_none }

offered_fits : {p : Node} (i : ℕ) → Fits (code false) anywhere p → FitsOffer (offered p i)
unfolding offered
offered_fits i (fits {h = h} t x e y qs g) =
    cond-case FitsOffer (eqb (kind_of h) Kind.choice) (λ u. chosen_fits (count_of h) i qs) (λ u. bare_fits i (fits t x e y qs g))

pub offer_fits : {n issued : ℕ} {p : Run} → Sound n issued p → (i : ℕ) → FitsOffer (offer p i)
unfolding offer
offer_fits nil_sound i = record { receives = deaf_fits; next = all_none }
offer_fits (seq_sound g t q) i = record { receives = deaf_fits; next = all_none }
offer_fits (par_sound g t k u) i = record { receives = deaf_fits; next = all_none }
offer_fits (scope_sound a m c g) i = record { receives = deaf_fits; next = all_none }
offer_fits (executor_sound o y e g) i = record { receives = deaf_fits; next = all_none }
offer_fits (waiter_sound o x e l) i = record { receives = deaf_fits; next = all_none }
offer_fits (notice_sound o f e) i = record { receives = deaf_fits; next = all_none }
offer_fits (act_sound t g) i = offered_fits i g

followed_sound : {n issued : ℕ} {p : Run} {q : Option Node} → Sound n issued p → All (Fits (code false) anywhere) q → Sound n issued (followed p q)
unfolding followed
followed_sound g all_none = g
followed_sound g (all_some f) = seq_of_sound g f

-- ---- exchanges

pub record FitsExchange (n issued : ℕ) (x : Exchange) : Type 0 where
  pub later : issued ≤ x.issued
  pub sender : Sound n x.issued x.sender
  pub receiver : Sound n x.issued x.receiver
  pub values : FitValues x.values

inst_sound : {n issued : ℕ} {l : Entries} → FitsEntries false zero l → Sound n issued (act (inst_of l))
unfolding head_fits allowed placed branched row_of rows processes_of node_fits distinct receives_in fields_fit
inst_sound g = act_sound tt (fits tt no_fixed no_exprs (a_list g) no_part tt)

throw_fits : (h : ℕ) → kind_of h ≡ Kind.throw → h % 32 ≡ 0 → Fits (code false) anywhere (node h [] [] absent no_parts)
unfolding allowed placed branched row_of rows processes_of fields_fit
throw_fits h k z =
    fits (head_fits_lem {s = code false} {p = anywhere} {h = h} (record { allows = at (λ k. T (allowed (code false) k)) tt; places = tt; clears = at (λ k. T (clear (row_of k).spare h)) (eq→eqb z); branches = at (λ k. T (not (eqb k Kind.choice) || ltb 0 (count_of h) && leb (count_of h) 8)) tt }))
    (at (λ k. FitsFixed (row_of k).fixed []) no_fixed)
    (at (λ k. FitsExprs (row_of k).expressions []) no_exprs)
    (at (λ k. FitsBlock (eqb k Kind.scope) (row_of k).lists absent) no_list)
    (at (λ k. FitsParts (code false) k (cond (eqb k Kind.choice) (count_of h * (row_of k).processes) (row_of k).processes) no_parts) no_part)
    (node_fits_lem (code false) h [] absent (receives_none h 13 [] k tt)
    (at (λ k. T (eqb k Kind.scope ⇒ resting_fits (mark_of h) (zombie_of h) (first_name (fixed_at [] 0)) no_entries)) tt))
  where
    at : (P : ℕ → Type 0) → P Kind.throw → P (kind_of h)
    at P x = subst P (sym k) x

    eq→eqb : h % 32 ≡ 0 → T (eqb (h % 32) 0)
    eq→eqb e = subst (λ x. T (eqb x 0)) (sym e) tt

throw_sound : {n issued f : ℕ} → f < 64 → Sound n issued (act (throw_of f))
throw_sound {f = f} b = act_sound (subst (λ k. T (is_plain k)) (sym k13) tt) (throw_fits (head_of Kind.throw (f * 32)) k13 (omega arith))
  where
    k13 : kind_of (head_of Kind.throw (f * 32)) ≡ 13
    k13 = omega arith

-- what a receiver is taken to be fits, and a waiter's list
hears_all :
    {A : Type 0} {P : A → Type 0} {r : Receiver} {k : ℕ → List ℕ → Option A} → FitsReceiver r →
    ((o : ℕ) (x : List ℕ) → FitsDistinct x → All P (k o x)) → All P (if_hears r k)
unfolding if_hears
hears_all deaf_fits f = all_none
hears_all (hears_fits c d) f = f _ _ d
hears_all (serves_fits c d e g) f = all_none

serves_all :
    {A : Type 0} {P : A → Type 0} {r : Receiver} {k : ℕ → List ℕ → List ℕ → Node → Option A} → FitsReceiver r →
    ((o : ℕ) (x y : List ℕ) (p : Node) → FitsDistinct x → FitsVariables y → Fits (code false) anywhere p → All P (k o x y p)) → All P (if_serves r k)
unfolding if_serves
serves_all deaf_fits f = all_none
serves_all (hears_fits c d) f = all_none
serves_all (serves_fits c d e g) f = f _ _ _ _ d e g

awaited_all :
    {A : Type 0} {P : A → Type 0} {n issued : ℕ} (m : Meeting) (o client serial : ℕ) {k : List ℕ → Bool → Entries → Option A} → Sound n issued m.process →
    ((x : List ℕ) (dead : Bool) (l : Entries) → FitsEntries false zero l → All P (k x dead l)) → All P (awaited m o client serial k)
unfolding awaited if_waits
awaited_all {A} {P} {n} {issued} m o client serial {k} g f = by g
  where
    by : {r : Run} → Sound n issued r → All P (if_waits r λ op x dead server s l. guarded (eqb m.branch 0 && eqb serial s && eqb o op && eqb client m.receiver && eqb server m.sender) (k x dead l))
    by nil_sound = all_none
    by (seq_sound g t q) = all_none
    by (par_sound g t h u) = all_none
    by (scope_sound a c d g) = all_none
    by (executor_sound a y d g) = all_none
    by (waiter_sound {x = x} {dead = dead} {l = l} a b d g) = all_guarded _ λ t. f x dead l g
    by (notice_sound a b d) = all_none
    by (act_sound t g) = all_none

pub exchange_fits :
    {n : ℕ} (k : Meeting) {m : Message} →
    FitValues k.values →
    k.sender < n →
    k.receiver < n →
    Sound n k.issued k.process →
    FitsMessage m →
    All (FitsExchange n k.issued) (exchange k m)
unfolding exchange
exchange_fits k v s r g (notification_fits {z = z} o b) =
    all_guarded (eqb z k.receiver) λ u.
    hears_all (offer_fits g k.branch).receives λ op x c.
    all_guarded _ λ t.
    all_some
    (record {
      later = le_refl k.issued;
      sender = nil_sound;
      receiver = followed_sound nil_sound (offer_fits g k.branch).next;
      values = values_set_all v b x;
    })
exchange_fits {n} k v s r g (solicitation_fits {z = z} o b d l) =
    all_guarded (eqb z k.receiver) λ u.
    serves_all (offer_fits g k.branch).receives λ op x y p e c f.
    all_guarded _ λ t.
    all_some
    (record {
      later = omega arith;
      sender = waiter_sound o d (end_fits_lem (record { below = r; positive = omega arith; given = le_refl (suc k.issued) })) l;
      receiver =
          followed_sound
          (executor_sound o c (end_fits_lem (record { below = s; positive = omega arith; given = le_refl (suc k.issued) })) (enable_sound n (suc k.issued) f))
          (offer_fits g k.branch).next;
      values = values_set_all v b x;
    })
exchange_fits k v s r g (reply_fits {o = o} {client = client} {serial = serial} b) =
    awaited_all k o client serial g λ x dead l f.
    all_guarded _ λ t.
    all_some (record { later = le_refl k.issued; sender = nil_sound; receiver = inst_sound f; values = values_set_all v b x })
exchange_fits {n} k v s r g (failure_fits {o = o} {f = f} {client = client} {serial = serial} b) =
    awaited_all k o client serial g λ x dead l h.
    all_some
    (record {
      later = le_refl k.issued;
      sender = nil_sound;
      receiver = cond-case (λ r. Sound n k.issued r) dead (λ t. nil_sound) (λ t. throw_sound b);
      values = v;
    })

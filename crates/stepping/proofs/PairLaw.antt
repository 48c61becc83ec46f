-- A step between two engines is the definitions'.
-- Assumes nothing.
use Prim.Native.Nat.{ℕ, suc, ◌+◌, ◌-◌, ◌≤◌, ◌<◌}
use native.Mathlib.Omega.{arith}
use native.Mathlib.Decide.{ℕ_discrete}
use mathlib.Core.Path.{◌≡◌, refl, sym, ap, ap₂, ◌∙◌}
use mathlib.Core.Bool.{Bool, true, false, cond}
use mathlib.Core.Option.{Option, none, some}
use mathlib.Core.List.{List, ◌++◌}
use borrow.Author.Tests.{eq-eqb, ne_eqb, le-ltb, ltb-true, ltb-false, eqb-true, eqb-false}
use lib.Arith.{lt_of_le-ne}
use lib.Dec.{ltb, eqb}
use lib.ListN.{length, get_or, drop}
use lib.Seq.{set_comm}
use Rattle.sock.specs.Term.{kind}
use Rattle.sock.specs.Running.{Run, as_node, run_words, size, run_depth}
use Rattle.sock.specs.Configuration.{Config, Engine}
use Rattle.sock.specs.Frames.{Located, plug}
use Rattle.sock.specs.Rules.{Message, sends, move_of, Exchange, exchange}
use Rattle.sock.specs.Calls.{Spot as Place, no_fit, Numbers, engine_at, meeting, with_engine}
use Rattle.sock.proofs.Located.{start_of}
use Rattle.reading.specs.Survey.{Starts}
use Rattle.reading.proofs.Combining.{Words}
use Rattle.reading.proofs.Known.{Known, known_length, known_issued}
use Rattle.reading.proofs.Standing.{start_next}
use Rattle.finding.specs.declared.find.Site.{Site}
use Rattle.finding.specs.Find.{fault_at}
use Rattle.writers.proofs.Laid.{Near}
use Rattle.rules.specs.Rewriting.{Rewriting}
use Rattle.rules.specs.Editing.{Edit}
use Rattle.rules.specs.Rewriting.{at}
use Rattle.rules.specs.Offering.{offer_w}
use Rattle.rules.specs.Editing.{Edited, plain_w}
use Rattle.rules.proofs.Rewrites.{Becomes, both_ways}
use Rattle.rules.proofs.Edits.{Edits, plain_edits}
use Rattle.rules.proofs.Stores.{stored, stored_none}
use Rattle.rules.proofs.Outcomes.{Ruled, too_deep, ruled, becomes_ruled}
use Rattle.layout.specs.declared.limit.Limits.{Limits}
use Rattle.layout.specs.Limits.{figures}
use Rattle.stepping.proofs.Modest.{Modest}
use Rattle.stepping.specs.Bundles.{Encounter}
use Rattle.rules.specs.declared.edit.Side.{Side}
use Rattle.stepping.specs.Answering.{Told, changed, answered, refusing, two_w}
use Rattle.stepping.specs.Meeting.{fit_w, serial_w, send_w, receive_w}
use Rattle.stepping.specs.Exchanging.{blank, lent, sender_w, receiver_w, ordered_w, next_of, issued_of, fault_of, carry_w, spent_w, meet_w, between_w}
use Rattle.stepping.proofs.Goal.{given, given_refused, fitted, fitted_spent}
use Rattle.stepping.proofs.Given.{two_given}
use Rattle.stepping.proofs.Results.{one_stands, one_behind, one_length}
use Rattle.stepping.proofs.Whole.{pair_of, exchanged, pair_same, pair_none, pair_some}
use Rattle.stepping.proofs.Seeking.{Seen, placed}
use Rattle.stepping.proofs.Fresh.{blank_length, blank_near, send_few, receive_few, plain_few}
use Rattle.stepping.proofs.Pairs.{Trades, Pairs, misfit, fit}
use Rattle.stepping.proofs.Partners as partners

module _ (ws : List ℕ) (ok : Words ws) (s : Starts) {limits : Limits} (modest : Modest limits) (known : Known (figures limits) ws s) where
  abbrev c : Config
  c = known.config

  abbrev end : ℕ → ℕ
  end e = start_of c e + size (engine_at c e).process

  short : length ws ≤ limits.longest
  short = (known_length known).1

  -- what a rewriting makes of a process that was found, as an edit
  pub record Edited-by (e : ℕ) (l : Located) (u : Edited) (t : Rewriting) (q : Run) : Type 0 where
    pub edits : Edits ws (start_of c e) (end e) u.edit u.fresh (plug l.frames q)
    pub deep : run_depth (plug l.frames q) ≤ limits.deepest
    pub few : u.edit.fresh ≤ limits.longest
    pub takes : u.edit.store ≡ t.store

  module _ (e target : ℕ) (l : Located) (sp : Site) (seen : Seen ws ok s modest known e target l sp) where
    stands : drop (start_of c e) ws ≡ run_words (engine_at c e).process ++ drop (end e) ws
    stands =
        one_stands c known.readable.fitting e seen.inside ws known.same
        ∙ ap (λ x. run_words (engine_at c e).process ++ x) (sym (one_behind c known.readable.fitting e seen.inside ws known.same))

    rewritten_edits :
        (q : Run) (t : Rewriting) (fresh : List ℕ) → length fresh ≡ 64 → t.fresh ≤ 4 → Becomes l.process q t fresh → run_depth q ≤ run_depth l.process →
        Edited-by e l (plain_w sp (start_of c e) t fresh) t q
    rewritten_edits q t fresh n few b low =
        let near : Near (length fresh) = rw (n ∙ sym blank_length) blank_near in
        let p =
        plain_edits (fault_at ws target) target (engine_at c e).process (start_of c e) 1 l sp ws stands seen.spotted (partners.near ws ok s modest known) q t fresh (omega arith) near b in
        let g =
        becomes_ruled (fault_at ws target) target (engine_at c e).process (start_of c e) l sp ws stands seen.spotted (partners.near ws ok s modest known)
        (partners.found_frames ws ok s modest known e seen.inside target l sp seen.spotted) (partners.engine_shallow ws ok s modest known e seen.inside target l sp seen.spotted)
        q t fresh (omega arith) near b (omega (arith, seen.spotted.level, deep_in)) in
        record { edits = p.0; deep = by g.0 p.1; few = omega (arith, plain_few fresh near (omega arith) sp (start_of c e) t few, one_length c known.readable.fitting e seen.inside ws known.same, short); takes = p.2 }
      where
        deep_in : length l.frames + run_depth l.process ≤ limits.deepest
        deep_in = partners.found_deep ws ok s modest known e seen.inside target l sp seen.spotted

        by : {p : Edit} {f : List ℕ} → Ruled limits.deepest ws (start_of c e) (end e) p f (some (plug l.frames q)) → p.number ≡ 0 → run_depth (plug l.frames q) ≤ limits.deepest
        by (too_deep z d) y = absurd (omega arith)
        by (ruled z edits d) y = d

  -- ---- an exchange carried out

  same_stepped :
      {i1 i2 k1 k2 s1 s2 f1 f2 : ℕ} {e1 e2 : List Engine} → i1 ≡ i2 → e1 ≡ e2 → k1 ≡ k2 → s1 ≡ s2 → f1 ≡ f2 → (out : List ℕ) →
      given (fitted limits (length out) (record { config = record { issued = i1; engines = e1 }; kind = k1; serial = s1; fault = f1 })) out
      ≡ given (fitted limits (length out) (record { config = record { issued = i2; engines = e2 }; kind = k2; serial = s2; fault = f2 })) out
  same_stepped a b d e f out = rw (a, b, d, e, f)

  starts_at : (e : ℕ) → e < length c.engines → (get_or s.starts e 0 ≡ start_of c e) × (get_or s.starts (e + 1) 0 - 64 ≡ end e)
  starts_at e h =
      let y : get_or s.starts (e + 1) 0 ≡ start_of c (e + 1) = known.starts (e + 1) (omega arith) in
      let z = start_next c known.readable.fitting e h in
      (known.starts e (omega arith), omega arith)

  module _ (e : ℕ) (he : e < length c.engines) (i : ℕ) (hi : i < length c.engines) (other : e ≡ i → ⊥) (p : Edit) (f : List ℕ) (qa : Run)
      (editsA : Edits ws (start_of c e) (end e) p f qa) (deepA : run_depth qa ≤ limits.deepest) (fewA : p.fresh ≤ limits.longest) (r : Edit) (g : List ℕ) (qb : Run)
      (editsB : Edits ws (start_of c i) (end i) r g qb) (deepB : run_depth qb ≤ limits.deepest) (fewB : r.fresh ≤ limits.longest) (issued : ℕ) (fine : issued ≤ 65535) (kd branch serial fault : ℕ) (sa sb : Site) (out : List ℕ) where
    abbrev va : List ℕ
    va = stored (engine_at c e).values p.store

    abbrev vb : List ℕ
    vb = stored (engine_at c i).values r.store

    abbrev told : Told
    told = record { kind = kd; serial = serial; fault = fault; issued = issued }

    abbrev met : Encounter
    met =
        record {
          kind = kd;
          engine = e;
          second = i;
          branch = branch;
          sender = record { start = start_of c e; end = end e; site = sa };
          receiver = record { start = start_of c i; end = end i; site = sb };
        }

    ordered_law :
        ordered_w limits ws met p f r g told out
        ≡ given
        (fitted limits (length out)
        (record {
          config = record { issued = issued; engines = with_engine i vb qb (with_engine e va qa c.engines) };
          kind = kd;
          serial = serial;
          fault = fault;
        }))
        out
    unfolding ordered_w
    ordered_law =
        by (ltb e i) refl
      where
        by :
            (b : Bool) → ltb e i ≡ b →
            cond b (two_w limits ws (changed (start_of c e) (end e) p) f (changed (start_of c i) (end i) r) g told out)
            (two_w limits ws (changed (start_of c i) (end i) r) g (changed (start_of c e) (end e) p) f told out)
            ≡ given
            (fitted limits (length out)
            (record {
              config = record { issued = issued; engines = with_engine i vb qb (with_engine e va qa c.engines) };
              kind = kd;
              serial = serial;
              fault = fault;
            }))
            out
        by true z =
            two_given modest c known.readable.fitting known.readable.shallow ws known.same short e i (ltb-true e i z) hi p f qa editsA r g qb editsB issued kd serial fault out fine deepA deepB
            fewA fewB
        by false z =
            let low : i < e = (let y : i ≤ e = ltb-false e i z in lt_of_le-ne y (λ w. other (sym w))) in
            two_given modest c known.readable.fitting known.readable.shallow ws known.same short i e low he r g qb editsB p f qa editsA issued kd serial fault out fine deepB deepA
            fewB fewA
            ∙ same_stepped refl (set_comm c.engines i e _ _ (λ w. other (sym w))) refl refl refl out

  -- the serials of an exchange that finds one
  module _ (part : List ℕ) (kind : ℕ) (left : spent_w ws kind ≡ false) where
    next_serial : serial_w part kind (next_of (at ws 1)) ≡ serial_w part kind (suc c.issued)
    unfolding serial_w spent_w next_of
    next_serial = by (eqb kind 9) (eqb kind 10) (eqb (at ws 1) 65535) left refl
      where
        by :
            (a b d : Bool) → cond b d false ≡ false → eqb (at ws 1) 65535 ≡ d →
            cond a 0 (cond b (cond d (at ws 1) (at ws 1 + 1)) (at part 2)) ≡ cond a 0 (cond b (suc c.issued) (at part 2))
        by true b d q z = refl
        by false false d q z = refl
        by false true true q z = absurd (both_ways true refl q)
        by false true false q z = (let y = known_issued known in omega arith)

    next_issued : issued_of kind (at ws 1) (next_of (at ws 1)) ≡ issued_of kind c.issued (suc c.issued)
    unfolding issued_of spent_w next_of
    next_issued = by (eqb kind 10) (eqb (at ws 1) 65535) left refl
      where
        by : (b d : Bool) → cond b d false ≡ false → eqb (at ws 1) 65535 ≡ d → cond b (cond d (at ws 1) (at ws 1 + 1)) (at ws 1) ≡ cond b (suc c.issued) c.issued
        by false d q z = known_issued known
        by true true q z = absurd (both_ways true refl q)
        by true false q z = (let y = known_issued known in omega arith)

    issued_fine : issued_of kind c.issued (suc c.issued) ≤ 65535
    unfolding issued_of spent_w
    issued_fine = by (eqb kind 10) (eqb (at ws 1) 65535) left refl
      where
        by : (b d : Bool) → cond b d false ≡ false → eqb (at ws 1) 65535 ≡ d → cond b (suc c.issued) c.issued ≤ 65535
        by false d q z = omega (arith, known.readable.fitting.word)
        by true true q z = absurd (both_ways true refl q)
        by true false q z =
            let y = known_issued known in
            let w : c.issued ≡ 65535 → ⊥ = λ u. eqb-false (at ws 1) 65535 z (y ∙ u) in
            lt_of_le-ne (omega (arith, known.readable.fitting.word)) w

  -- ---- two processes found

  module _ (e ta : ℕ) (la : Located) (sa : Site) (seenA : Seen ws ok s modest known e ta la sa) (i tb : ℕ) (lb : Located) (sb : Site) (seenB : Seen ws ok s modest known i tb lb sb)
      (k : Numbers) (m : Message) (moves : move_of (engine_at c e).values la.frames la.process ≡ sends m) (out : List ℕ) where
    abbrev a : Place
    a = placed ws ok s modest known e la

    abbrev b : Place
    b = placed ws ok s modest known i lb

    abbrev kd : ℕ
    kd = kind (as_node la.process)

    abbrev part : List ℕ
    part = lent sa.at (length ws) ws

    abbrev values : List ℕ
    values = lent (start_of c e - 64) (start_of c e) ws

    abbrev rest : List ℕ
    rest = lent sb.at (length ws) ws

    -- the two, with their engines' processes at given places
    abbrev two_at : Side → Side → Encounter
    two_at x y = record { kind = kd; engine = e; second = i; branch = k.branch; sender = x; receiver = y }

    abbrev both : Encounter
    both = two_at (record { start = start_of c e; end = end e; site = sa }) (record { start = start_of c i; end = end i; site = sb })

    -- where the survey says that they are
    abbrev noted : Encounter
    noted =
        two_at (record { start = get_or s.starts e 0; end = get_or s.starts (e + 1) 0 - 64; site = sa })
        (record { start = get_or s.starts i 0; end = get_or s.starts (i + 1) 0 - 64; site = sb })

    abbrev serial : ℕ
    serial = serial_w part kd (suc c.issued)

    carry_law :
        (other : e ≡ i → ⊥) (x : Exchange) → spent_w ws kd ≡ false →
        Trades la.process lb.process (engine_at c i).values (issued_of kd c.issued (suc c.issued)) serial (fault_of kd) (send_w part kd i serial blank)
        (receive_w part values rest (offer_w rest k.branch) kd e serial blank) x →
        carry_w limits ws part values rest (offer_w rest k.branch) both out ≡ given (fitted limits (length out) (exchanged c a b x)) out
    unfolding carry_w sender_w receiver_w
    carry_law other x left t =
        let few1 = send_few blank blank_near (omega (arith, blank_length)) part kd i serial in
        let few2 = receive_few blank blank_near (omega (arith, blank_length)) part values rest (offer_w rest k.branch) kd e serial in
        let p1 = rewritten_edits e ta la sa seenA x.sender _ _ (few1.1 ∙ blank_length) few1.0 t.sender.becomes t.sender.shallow in
        let p2 = rewritten_edits i tb lb sb seenB x.receiver _ _ (few2.1 ∙ blank_length) few2.0 t.receiver t.shallow in
        rw (next_serial part kd left, next_issued part kd left)
        (ordered_law e seenA.inside i seenB.inside other _ _ (plug la.frames x.sender) p1.edits p1.deep p1.few _ _ (plug lb.frames x.receiver) p2.edits
        p2.deep p2.few (issued_of kd c.issued (suc c.issued)) (issued_fine part kd left) kd k.branch serial (fault_of kd) sa sb out
        ∙ same_stepped (sym t.issues)
        (ap₂ (λ (vs us : List ℕ). with_engine i vs (plug lb.frames x.receiver) (with_engine e us (plug la.frames x.sender) c.engines))
        (ap (stored (engine_at c i).values) p2.takes ∙ sym t.values)
        (stored_none (engine_at c e).values _ (ap (λ s. s.variable) (p1.takes ∙ t.sender.takes))))
        refl (sym t.numbers) (sym t.fails) out)

    -- where no serial is left
    spent_law :
        (x : Exchange) → spent_w ws kd ≡ true → x.issued ≡ issued_of kd c.issued (suc c.issued) →
        answered (refusing 7) out ≡ given (fitted limits (length out) (exchanged c a b x)) out
    unfolding spent_w issued_of
    spent_law x full q = sym (fitted_spent limits (exchanged c a b x) out (by (eqb kd 10) (eqb (at ws 1) 65535) full refl q))
      where
        by :
            (y z : Bool) → cond y z false ≡ true → eqb (at ws 1) 65535 ≡ z → x.issued ≡ cond y (suc c.issued) c.issued → 65535 < x.issued
        by true true f g h = omega (arith, eqb-true (at ws 1) 65535 g, known_issued known)
        by true false f g h = absurd (both_ways false f refl)
        by false z f g h = absurd (both_ways false f refl)

    meet_law :
        (other : e ≡ i → ⊥) →
        meet_w limits ws part values rest both out ≡ given (pair_of limits c k a b m (length out)) out
    unfolding meet_w
    meet_law other =
        by (exchange (meeting c k a b) m) refl
        (partners.partners_trade ws ok s modest known e seenA.inside ta la sa seenA.spotted i seenB.inside tb lb sb seenB.spotted k.branch m moves)
      where
        by :
            (o : Option Exchange) → exchange (meeting c k a b) m ≡ o →
            Pairs c.issued e i k.branch la.process lb.process (engine_at c i).values part values rest kd blank o →
            cond (fit_w part values rest (offer_w rest k.branch) kd k.branch e i)
            (cond (spent_w ws kd) (answered (refusing 7) out) (carry_w limits ws part values rest (offer_w rest k.branch) both out))
            (answered (refusing 5) out)
            ≡ given (pair_of limits c k a b m (length out)) out
        by none q (misfit z) = rw (z, pair_none limits c k a (length out) b m other q) (sym (given_refused no_fit out))
        by (some x) q (fit z t) = rw (z, pair_some limits c k a (length out) b m other x q) (spend (spent_w ws kd) refl)
          where
            spend :
                (y : Bool) → spent_w ws kd ≡ y →
                cond y (answered (refusing 7) out) (carry_w limits ws part values rest (offer_w rest k.branch) both out)
                ≡ given (fitted limits (length out) (exchanged c a b x)) out
            spend true f = spent_law x f t.issues
            spend false f = carry_law other x f t

    -- the answer and the output of a step between two
    pub pair_law : between_w limits ws noted out ≡ given (pair_of limits c k a b m (length out)) out
    unfolding between_w
    pair_law = by (ℕ_discrete e i)
      where
        start_low : start_of c e ≤ length ws
        start_low = omega (arith, one_length c known.readable.fitting e seenA.inside ws known.same)

        by : Dec (e ≡ i) → between_w limits ws noted out ≡ given (pair_of limits c k a b m (length out)) out
        by (yes q) = rw (eq-eqb e i q, pair_same limits c k a (length out) b m q) (sym (given_refused no_fit out))
        by (no q) =
            rw (
              ne_eqb e i q,
              (starts_at e seenA.inside).0,
              (starts_at e seenA.inside).1,
              (starts_at i seenB.inside).0,
              (starts_at i seenB.inside).1,
              le-ltb (start_of c e) 64 (omega arith),
              le-ltb (length ws) (start_of c e) start_low,
              le-ltb (length ws) sa.at (partners.found_inside ws ok s modest known e seenA.inside ta la sa seenA.spotted),
              le-ltb (length ws) sb.at (partners.found_inside ws ok s modest known i seenB.inside tb lb sb seenB.spotted),
            )
            (meet_law q)

-- The game meets its contract.
use Prim.Native.Nat.{suc}
use native.Mathlib.Omega.{arith}
use mathlib.Core.Path.{◌≡◌, refl, sym, subst, ap, ◌∙◌}
use mathlib.Core.Bool.{true, false}
use lib.ListN.{drop, length-take, length-drop, length-append}
use Rattle.keeper.specs.Answers.{is_river}
use Rattle.keeper.specs.Seeking.{side_of}
use Rattle.keeper.specs.Game.{forces}
use Rattle.keeper.specs.Playing.{won_by, Forced}
use Rattle.keeper.proofs.Deciding.{judged_now, judged_later, judged_other, judged_unread, judged_end, judged_last, judged_pass, judged_lost, front_words, forced_here, forced_none, none_at_all, going_on, short, turned_is}
use Rattle.keeper.proofs.Losing.{lost_hope}
use denote.Enum.Bare.{sameb}
use Rattle.keeper.specs.contracts.moves.Side.{the_type as side_type}
use Rattle.keeper.specs.declared.moves.Side.{Side}
use Rattle.keeper.specs.declared.moves.Side.TheVariants.{Keeper, River}
use Rattle.keeper.proofs.game.Game.+force_judged_node_tried.Goals as goal

-- whether it is the river, or the keeper, as the code asks
river_is : (s : Side) → is_river s ≡ sameb side_type s River
river_is Keeper = refl
river_is River = refl

keeper_is : (s : Side) → sameb side_type s Keeper ≡ true → is_river s ≡ false
keeper_is Keeper e = refl
keeper_is River e = sym e

pub force-returns-in_default : goal.force-returns-in_default
force-returns-in_default t c =
    judged_unread c.args.self.engines c.args.self.serial c.args.left (is_river c.args.side) c.args.ws.now _ (λ i. (c.type_inv.ws i).fits) _ c.survey.ensures.answered c.in_default.is c.no.ensures.forced c.no.ensures.decided

pub judged-returns-then-delivers : goal.judged-returns-then-delivers
judged-returns-then-delivers t c = judged_now c.args.self.serial _ c.args.a _ (sym c.delivers.ensures ∙ c.if-delivers.true)

pub judged-returns-then-lost : goal.judged-returns-then-lost
judged-returns-then-lost t c =
    let m = c.split_at_mut-here.ensures in
    judged_lost c.args.self.serial _ _ _ _ (sym c.delivers.ensures ∙ c.if-delivers.false)
    (front_words c.args.a.length _ c.args.scratch.now _ _ m.value c.wide.ensures.0 (omega (arith, m.front_len, c.requires.0)))
    ((lost_hope c.args.self.serial c.args.left _).none (sym c.lost.ensures ∙ c.if-lost.true) c.args.self.engines (side_of (is_river c.args.side)))

pub judged-returns : goal.judged-returns
judged-returns t c =
    let m = c.split_at_mut-here.ensures in
    c.force.ensures.forced.verdict
    ∙ ap (forces c.args.self.engines c.args.self.serial c.args.left (side_of (is_river c.args.side))) (front_words c.args.a.length _ c.args.scratch.now _ _ m.value c.wide.ensures.0 (omega (arith, m.front_len, c.requires.0)))
    ∙ judged_later c.args.self.serial _ _ _ (sym c.delivers.ensures ∙ c.if-delivers.false)

pub node-returns-then-left-eq0 : goal.node-returns-then-left-eq0
node-returns-then-left-eq0 t c =
    judged_end c.args.self.engines c.args.self.serial c.args.left (is_river c.args.side) _ _ c.if-left-eq0.true c.no.ensures.forced c.no.ensures.decided

pub node-returns-then-eq : goal.node-returns-then-eq
node-returns-then-eq t c =
    judged_last c.args.self.engines c.args.self.serial c.args.left (is_river c.args.side) _ _ _ c.if-left-eq1.true (keeper_is c.args.side (sym c.eq.ensures ∙ c.if-eq.true)) c.last.ensures.forced c.last.ensures.decided c.reply.ensures

pub node-returns-in-None : goal.node-returns-in-None
node-returns-in-None t c =
    judged_pass c.args.self.engines c.args.self.serial c.args.left (is_river c.args.side) _ _ _ _ c.if-left-eq0.false c.in-None.ensures c.other.ensures c.node.ensures refl refl

pub tried-slice_bounds-scan-end-in-loop-m : goal.tried-slice_bounds-scan-end-in-loop-m
tried-slice_bounds-scan-end-in-loop-m t c = omega (arith, length-take 8192 c.loop-m.rest, c.loop-m.auto.rest, c.requires.1)

pub tried-scan-requires : goal.tried-scan-requires
tried-scan-requires t c = (c.requires.0, omega (arith, length-take 8192 c.loop-m.rest, c.loop-m.auto.rest, c.requires.1))

pub tried-judged-won-requires : goal.tried-judged-won-requires
tried-judged-won-requires t c = (
  omega (arith, c.decreases),
  (
    short c.args.self.engines c.args.self.serial c.args.left (is_river c.args.side) _ _ c.loop-m.invariant _ _ _ c.in-Some.ensures.scanned c.in-Some.ensures.there,
    omega (arith, length-append c.scan.new.out (drop 8192 c.loop-m.rest), c.scan.auto.out, length-take 8192 c.loop-m.rest, length-drop 8192 c.loop-m.rest, c.loop-m.auto.rest, c.requires.1),
  ),
)

pub tried-returns-then-decides : goal.tried-returns-then-decides
tried-returns-then-decides t c =
    let x = c.args.self in
    let b = is_river c.args.side in
    let s = c.in-Some.ensures in
    let low = short x.engines x.serial c.args.left b _ _ c.loop-m.invariant _ _ _ s.scanned s.there in
    let won = judged_other x.engines x.serial c.args.left b _ _ _ _ c.other.ensures c.judged-won.ensures
    ∙ ap (won_by x.serial _ _) (sym (front_words c.in-Some.m.accepted.length _ _ c.scan.new.out (drop 8192 c.loop-m.rest) refl refl (omega (arith, low, c.scan.auto.out, length-take 8192 c.loop-m.rest, c.loop-m.auto.rest, c.requires.1)))) in
    let q = sym c.decides.ensures ∙ c.if-decides.true in
    record {
      forced =
          subst (λ v. Forced x.engines x.serial (suc c.args.left) b c.args.search.now.noted.ws.now v c.in-Some.m.index) (turned_is b _ q)
          (forced_here x.engines x.serial c.args.left b _ _ c.loop-m.invariant _ _ _ s.scanned s.there _ won q);
      there = s.there;
    }

pub tried-loop-m-preserved : goal.tried-loop-m-preserved
tried-loop-m-preserved t c =
    let x = c.args.self in
    let b = is_river c.args.side in
    let s = c.in-Some.ensures in
    let low = short x.engines x.serial c.args.left b _ _ c.loop-m.invariant _ _ _ s.scanned s.there in
    let won = judged_other x.engines x.serial c.args.left b _ _ _ _ c.other.ensures c.judged-won.ensures
    ∙ ap (won_by x.serial _ _) (sym (front_words c.in-Some.m.accepted.length _ _ c.scan.new.out (drop 8192 c.loop-m.rest) refl refl (omega (arith, low, c.scan.auto.out, length-take 8192 c.loop-m.rest, c.loop-m.auto.rest, c.requires.1)))) in
    going_on x.engines x.serial c.args.left b _ _ c.loop-m.invariant _ _ _ s.scanned s.there _ won (sym c.decides.ensures ∙ c.if-decides.false)

pub tried-returns-then-from-eq0 : goal.tried-returns-then-from-eq0
tried-returns-then-from-eq0 t c =
    none_at_all c.args.self.engines c.args.self.serial c.args.left (is_river c.args.side) _ _ c.loop-m.invariant _ _ _ c.in_default.ensures.scanned c.if-from-eq0.true (omega arith)

pub tried-returns : goal.tried-returns
tried-returns t c =
    let x = c.args.self in
    let b = is_river c.args.side in
    let side : b ≡ c.eq.result = river_is c.args.side ∙ sym c.eq.ensures in
    record {
      forced =
          subst (λ v. Forced x.engines x.serial (suc c.args.left) b c.args.search.now.noted.ws.now v 68719476736) side
          (forced_none x.engines x.serial c.args.left b _ _ c.loop-m.invariant _ _ _ c.in_default.ensures.scanned c.if-from-eq0.false (omega arith));
      there = tt;
    }

use Rattle.std.proofs.Common.{◌≡◌, true, false, refl, ◌+◌, ◌≤◌, length, ap, ◌∙◌, sym, arith, vec_len, vec_capacity}
use denote.Enum.Bare.{sameb}
use Rattle.fax_runcodes.specs.contracts.Colour.{the_type}
use Rattle.fax_runcodes.specs.declared.Colour.{Colour}
use Rattle.fax_runcodes.specs.declared.Colour.TheVariants.{White, Black}
use Rattle.fax_runcodes.specs.Rows.{Elements}
use Rattle.fax_runcodes.specs.Painted.{colour_after_changes}
use Rattle.fax_runcodes.proofs.PaintedLemmas.{length-painted_all, rising_count}
use Rattle.fax_runcodes.proofs.PairLemmas.{pair_painted, pair_rising, longer_painted, longer_rising}
use Rattle.fax_runcodes.proofs.row.RowBuilder.paint_pair.Goals as goal
use Rattle.fax_runcodes.proofs.row.RowBuilder.paint_pair.Goals.{then-eq, else-eq}

black_if_same : (a : Colour) → sameb the_type a Black ≡ true → a ≡ Black
black_if_same White h = cc
black_if_same Black h = refl

white_if_not : (a : Colour) → sameb the_type a Black ≡ false → a ≡ White
white_if_not White h = refl
white_if_not Black h = cc

pub push_reserved-requires : goal.push_reserved-requires
push_reserved-requires c =
    let size : length c.args.self.now ≡ c.self.inside.len = ap (λ (es : Elements). length es) (sym c.self.view_is) ∙ length-painted_all c.self.inside.changes.items c.self.inside.len c.self.invariant.0 in
    let count : 0 + length c.self.inside.changes.items ≤ c.self.inside.len = rising_count 0 c.self.inside.changes.items c.self.inside.len c.self.invariant.0 in
    let room : 2432 ≤ vec_capacity c.self.inside.changes = c.self.invariant.2 in
    let len : vec_len c.self.inside.changes ≡ length c.self.inside.changes.items = c.self.inside.changes.ok.0 in
    omega (arith, c.requires.white, c.requires.black, c.requires.room)

pub push_reserved-requires-2 : goal.push_reserved-requires-2
push_reserved-requires-2 c =
    let size : length c.args.self.now ≡ c.self.inside.len = ap (λ (es : Elements). length es) (sym c.self.view_is) ∙ length-painted_all c.self.inside.changes.items c.self.inside.len c.self.invariant.0 in
    let count : 0 + length c.self.inside.changes.items ≤ c.self.inside.len = rising_count 0 c.self.inside.changes.items c.self.inside.len c.self.invariant.0 in
    let room : 2432 ≤ vec_capacity c.self.inside.changes = c.self.invariant.2 in
    let len : vec_len c.self.inside.changes ≡ length c.self.inside.changes.items = c.self.inside.changes.ok.0 in
    elim c.if-eq.branch [
      | then-eq w ↦ rw w.self-inside-is (omega (arith, c.requires.white, c.requires.black, c.requires.room, w.push_reserved.ensures.len, w.push_reserved.ensures.capacity))
      | else-eq w ↦ rw w.self-inside-is (omega (arith, c.requires.white, c.requires.black, c.requires.room))
    ]

pub invariant_of-self : goal.invariant_of-self
invariant_of-self c =
    let size : length c.args.self.now ≡ c.self.inside.len = ap (λ (es : Elements). length es) (sym c.self.view_is) ∙ length-painted_all c.self.inside.changes.items c.self.inside.len c.self.invariant.0 in
    let fits : c.self.inside.len + (c.args.white + c.args.black) ≤ 2432 = omega (arith, c.requires.room) in
    elim c.if-eq.branch [
      | then-eq w ↦
          let room : 2432 ≤ vec_capacity c.push_reserved-2.new.self = omega (arith, (rw w.self-inside-is at c.push_reserved-2.ensures.capacity), w.push_reserved.ensures.capacity, c.self.invariant.2) in
          rw (c.push_reserved-2.ensures.items, w.self-inside-is, w.push_reserved.ensures.items) (
            pair_rising c.self.inside.changes.items c.self.inside.len c.args.white c.args.black c.requires.white c.requires.black c.self.invariant.0,
            fits,
            room,
          )
      | else-eq w ↦
          let room : 2432 ≤ vec_capacity c.push_reserved-2.new.self = omega (arith, (rw w.self-inside-is at c.push_reserved-2.ensures.capacity), c.self.invariant.2) in
          rw (c.push_reserved-2.ensures.items, w.self-inside-is) (
            longer_rising c.self.inside.changes.items c.self.inside.len c.args.white c.args.black c.requires.black c.self.invariant.0,
            fits,
            room,
          )
    ]

pub returns : goal.returns
returns c =
    let after : c.after_changes.result ≡ colour_after_changes (length c.self.inside.changes.items) = c.after_changes.ensures ∙ ap colour_after_changes (c.len.ensures ∙ c.self.inside.changes.ok.0) in
    elim c.if-eq.branch [
      | then-eq w ↦
          let is_black : colour_after_changes (length c.self.inside.changes.items) ≡ Black = sym after ∙ black_if_same c.after_changes.result (sym c.eq.ensures ∙ w.if-eq.true) in
          rw (c.push_reserved-2.ensures.items, w.self-inside-is, w.push_reserved.ensures.items, ← c.self.view_is)
          (pair_painted c.self.inside.changes.items c.self.inside.len c.args.white c.args.black c.requires.white is_black c.self.invariant.0)
      | else-eq w ↦
          let is_white : colour_after_changes (length c.self.inside.changes.items) ≡ White = sym after ∙ white_if_not c.after_changes.result (sym c.eq.ensures ∙ w.if-eq.false) in
          rw (c.push_reserved-2.ensures.items, w.self-inside-is, ← c.self.view_is)
          (longer_painted c.self.inside.changes.items c.self.inside.len c.args.white c.args.black is_white c.self.invariant.0)
    ]

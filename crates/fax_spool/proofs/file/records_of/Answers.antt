use Rattle.std.proofs.Common.{◌≡◌, ◌+◌, ◌-◌, ◌≤◌, ◌++◌, [], ◌∷◌, List, ℕ, Vec, Global, length, take, drop, map, refl, sym, ◌∙◌, ap, subst, arith, rules, length-append}
use Rattle.std.proofs.lemmas.List.{map_push, take_at, drop_at}
use Rattle.fax_spool.specs.Records.{AreRead, Ends}
use Rattle.fax_spool.specs.Found.{is_destroyed, passed_over}
use Rattle.fax_spool.proofs.Headers.{read_push}
use Rattle.fax_spool.proofs.file.records_of.Goals as goal

items_push : (before after : List (Vec ℕ Global)) (v : Vec ℕ Global) (r : List ℕ) → after ≡ before ++ v ∷ [] → v.items ≡ r → map (λ (w : Vec ℕ Global). w.items) before ++ r ∷ [] ≡ map (λ (w : Vec ℕ Global). w.items) after
items_push before after v r pushed is =
    ap (λ (l : List ℕ). map (λ (w : Vec ℕ Global). w.items) before ++ l ∷ []) (sym is)
    ∙ sym (map_push (λ (w : Vec ℕ Global). w.items) before v)
    ∙ ap (λ (l : List (Vec ℕ Global)). map (λ (w : Vec ℕ Global). w.items) l) (sym pushed)

pub loop-item-init : goal.loop-item-init
loop-item-init c = ([], refl, subst (λ (l : List (Vec ℕ Global)). AreRead [] (map (λ (w : Vec ℕ Global). w.items) l)) (sym c.new-items.ensures.items) refl)

pub loop-item-preserved : goal.loop-item-preserved
loop-item-preserved c =
    let rs = map (λ (w : Vec ℕ Global). w.items) c.loop-item.items.items in
    let is = items_push c.loop-item.items.items c.push.new.self.items c.in_ok-to_vec.field-0 c.in-Some.item.now c.in_ok-push.ensures.items copied in
    let was = c.loop-item.invariant in
    let more = read_push was.0 c.args.octets.now c.loop-item.rest.now c.in-Some.item.now c.in-Some.after.now rs was.2 was.1 c.in-Some.ensures in
    (more.0, more.1, subst (λ (l : List (List ℕ)). AreRead more.0 l) is more.2)
  where
    copied : c.in_ok-to_vec.field-0.items ≡ c.in-Some.item.now
    copied = search (rules, c.in_ok-to_vec.ensures.items_if_clones_equal)

-- where the records end
front_is : (octets front rest : List ℕ) (n : ℕ) → octets ≡ front ++ rest → n + length rest ≡ length octets → take n octets ≡ front
front_is octets front rest n is count = ap (λ (l : List ℕ). take n l) is ∙ take_at front rest n (omega (arith, count, ap length is, length-append front rest))

rest_is : (octets front rest : List ℕ) (n : ℕ) → octets ≡ front ++ rest → n + length rest ≡ length octets → drop n octets ≡ rest
rest_is octets front rest n is count = ap (λ (l : List ℕ). drop n l) is ∙ drop_at front rest n (omega (arith, count, ap length is, length-append front rest))

pub returns : goal.returns
returns c =
    let was = c.loop-item.invariant in
    let octets = c.args.octets.now in
    let rest = c.loop-item.rest.now in
    let end : ℕ = length octets - length rest in
    let long : length rest ≤ length octets = omega (arith, ap length was.1, length-append was.0 rest) in
    let count : end + length rest ≡ length octets = omega (arith, long) in
    record {
      place = omega (arith, count);
      read = subst (λ (l : List ℕ). AreRead l (map (λ (w : Vec ℕ Global). w.items) c.loop-item.items.items)) (sym (front_is octets was.0 rest end was.1 count)) was.2;
      no_more = subst (λ (l : List ℕ). Ends l) (sym (rest_is octets was.0 rest end was.1 count)) c.in_default.ensures;
      passed_over = c.passed_over.ensures ∙ ap passed_over (sym (rest_is octets was.0 rest end was.1 count));
      destroyed = c.is_destroyed.ensures ∙ ap is_destroyed (sym (rest_is octets was.0 rest end was.1 count));
    }

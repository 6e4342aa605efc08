use Rattle.std.proofs.Common.{arith, ◌≡◌, ℕ, List, Bor, Option, nat_eq, map, sym, ap, ◌∙◌, subst}
use Rattle.std.specs.Cmp.Lexicographic.{pointwise}
use Rattle.std.specs.List.{IsDistinct}
use Rattle.std.specs.Option.{IfNone, IfSome}
use Rattle.std.proofs.lemmas.List.{take_all}
use Rattle.fax_config.specs.declared.sip.TrunkConfig.{TrunkConfig}
use Rattle.fax_config.specs.Configurations.{AreUnlike}
use Rattle.fax_config.specs.SipConfigurations.{names_of_trunks}
use Rattle.fax_config.specs.Faults.{HasTwice, IsRepeated}
use Rattle.fax_config.proofs.UnlikeLemmas.{texts_are_unlike, text_twice}
use Rattle.fax_config.proofs.unlike.trunks_unlike.Goals as goal

pub returns-in-None-clause-ok : goal.returns-in-None-clause-ok
returns-in-None-clause-ok c =
    let distinct : IsDistinct (λ (a : Bor (List ℕ)) (b : Bor (List ℕ)). pointwise nat_eq a.now b.now) c.as_slice.result.now =
    subst (λ (o : Option (Bor (List ℕ))). IfNone o (IsDistinct (λ (a : Bor (List ℕ)) (b : Bor (List ℕ)). pointwise nat_eq a.now b.now) c.as_slice.result.now)) c.in-None.is c.in_ok-repeated.ensures.distinct in
    let names : map (λ (name : Bor (List ℕ)). name.now) c.as_slice.result.now ≡ names_of_trunks c.args.trunks.now =
    ap (λ (names : List (Bor (List ℕ))). map (λ (name : Bor (List ℕ)). name.now) names) c.as_slice.ensures.value ∙ c.loop-trunk.invariant ∙ ap (λ (trunks : List TrunkConfig). names_of_trunks trunks) (take_all c.loop-trunk.trunk-index c.args.trunks.now (omega arith)) in
    subst (λ (names : List (List ℕ)). AreUnlike names) names (texts_are_unlike c.as_slice.result.now distinct)

pub returns-clause-fault : goal.returns-clause-fault
returns-clause-fault c =
    let again : IsRepeated (λ (a : Bor (List ℕ)) (b : Bor (List ℕ)). pointwise nat_eq a.now b.now) c.as_slice.result.now c.in-Some.name =
    subst (λ (o : Option (Bor (List ℕ))). IfSome o (IsRepeated (λ (a : Bor (List ℕ)) (b : Bor (List ℕ)). pointwise nat_eq a.now b.now) c.as_slice.result.now)) c.in-Some.is c.in_ok-repeated.ensures.twice in
    let names : map (λ (name : Bor (List ℕ)). name.now) c.as_slice.result.now ≡ names_of_trunks c.args.trunks.now =
    ap (λ (names : List (Bor (List ℕ))). map (λ (name : Bor (List ℕ)). name.now) names) c.as_slice.ensures.value ∙ c.loop-trunk.invariant ∙ ap (λ (trunks : List TrunkConfig). names_of_trunks trunks) (take_all c.loop-trunk.trunk-index c.args.trunks.now (omega arith)) in
    let twice = subst (λ (names : List (List ℕ)). HasTwice names c.in-Some.name.now) names (text_twice c.as_slice.result.now c.in-Some.name again) in
    λ members at. (c.args.trunks.now, at, subst (λ (name : List ℕ). HasTwice (names_of_trunks c.args.trunks.now) name) (sym c.in_ok-from_str-in-Some.ensures.ok) twice)

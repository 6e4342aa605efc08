use Rattle.std.proofs.Common.{◌≡◌, ℕ, List, ◌++◌, Bor, Option, nat_eq, map, sym, ap, ◌∙◌, subst}
use Rattle.std.specs.Cmp.Lexicographic.{pointwise}
use Rattle.std.specs.List.{IsDistinct}
use Rattle.std.specs.Option.{IfNone, IfSome}
use Rattle.fax_config.specs.Configurations.{AreUnlike, names_of_all, names_of_redials}
use Rattle.fax_config.specs.Faults.{HasTwice, IsRepeated}
use Rattle.fax_config.proofs.UnlikeLemmas.{texts_are_unlike, text_twice}
use Rattle.fax_config.proofs.unlike.names_unlike.Goals as goal

pub returns-in-None-clause-ok : goal.returns-in-None-clause-ok
returns-in-None-clause-ok c =
    let distinct : IsDistinct (λ (a : Bor (List ℕ)) (b : Bor (List ℕ)). pointwise nat_eq a.now b.now) c.as_slice.result.now =
    subst (λ (o : Option (Bor (List ℕ))). IfNone o (IsDistinct (λ (a : Bor (List ℕ)) (b : Bor (List ℕ)). pointwise nat_eq a.now b.now) c.as_slice.result.now)) c.in-None.is c.in_ok-repeated.ensures.distinct in
    let names : map (λ (name : Bor (List ℕ)). name.now) c.as_slice.result.now ≡ names_of_all c.args.lines.now c.args.redials.now =
    ap (λ (names : List (Bor (List ℕ))). map (λ (name : Bor (List ℕ)). name.now) names) c.as_slice.ensures.value ∙ c.in_ok-all.ensures.told ∙ ap (λ (names : List (List ℕ)). names ++ names_of_redials c.args.redials.now) c.in_ok-names.ensures.told in
    subst (λ (names : List (List ℕ)). AreUnlike names) names (texts_are_unlike c.as_slice.result.now distinct)

pub returns-clause-fault : goal.returns-clause-fault
returns-clause-fault c =
    let again : IsRepeated (λ (a : Bor (List ℕ)) (b : Bor (List ℕ)). pointwise nat_eq a.now b.now) c.as_slice.result.now c.in-Some.name =
    subst (λ (o : Option (Bor (List ℕ))). IfSome o (IsRepeated (λ (a : Bor (List ℕ)) (b : Bor (List ℕ)). pointwise nat_eq a.now b.now) c.as_slice.result.now)) c.in-Some.is c.in_ok-repeated.ensures.twice in
    let names : map (λ (name : Bor (List ℕ)). name.now) c.as_slice.result.now ≡ names_of_all c.args.lines.now c.args.redials.now =
    ap (λ (names : List (Bor (List ℕ))). map (λ (name : Bor (List ℕ)). name.now) names) c.as_slice.ensures.value ∙ c.in_ok-all.ensures.told ∙ ap (λ (names : List (List ℕ)). names ++ names_of_redials c.args.redials.now) c.in_ok-names.ensures.told in
    let twice = subst (λ (names : List (List ℕ)). HasTwice names c.in-Some.name.now) names (text_twice c.as_slice.result.now c.in-Some.name again) in
    λ members at also. (c.args.lines.now, c.args.redials.now, at, also, subst (λ (name : List ℕ). HasTwice (names_of_all c.args.lines.now c.args.redials.now) name) (sym c.in_ok-from_str-in-Some.ensures.ok) twice)

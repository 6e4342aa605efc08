use Rattle.std.proofs.Common.{◌≡◌, codes, ap, ◌∙◌}
use Rattle.fax_control.specs.declared.word.Bounds.{Bounds}
use Rattle.fax_control.specs.Words.{option_led}
use Rattle.fax_control.proofs.OptionLemmas.{octets_start_otherwise}
use Rattle.fax_control.proofs.options.bounds_of.Goals as goal

pub returns-in_err-redundancy-clause-only : goal.returns-in_err-redundancy-clause-only
returns-in_err-redundancy-clause-only c = λ bounds rest is range none.
    absurd (c.in_err-redundancy.ensures.only bounds.redundancy (option_led (codes "octets=") bounds.octets rest) is range.0 (λ _. octets_start_otherwise bounds.octets rest none.0))

pub returns-in_err-octets-clause-only : goal.returns-in_err-octets-clause-only
returns-in_err-octets-clause-only c = λ bounds rest is range none.
    let first = c.in_ok-redundancy.ensures.only bounds.redundancy (option_led (codes "octets=") bounds.octets rest) is range.0 (λ _. octets_start_otherwise bounds.octets rest none.0) in
    absurd (c.in_err-octets.ensures.only bounds.octets rest first.1 range.1 (λ _. none.1))

pub returns-clause-only : goal.returns-clause-only
returns-clause-only c = λ bounds rest is range none.
    let first = c.in_ok-redundancy.ensures.only bounds.redundancy (option_led (codes "octets=") bounds.octets rest) is range.0 (λ _. octets_start_otherwise bounds.octets rest none.0) in
    let second = c.in_ok-octets.ensures.only bounds.octets rest first.1 range.1 (λ _. none.1) in
    let redundancy : c.octet_of-redundancy.result ≡ bounds.redundancy = c.octet_of-redundancy.ensures ∙ first.0 in
    let octets : c.double_octet_of-octets.result ≡ bounds.octets = c.double_octet_of-octets.ensures ∙ second.0 in
    let same : ◌≡◌ {A = Bounds} (record { redundancy = c.octet_of-redundancy.result; octets = c.double_octet_of-octets.result }) bounds =
    ap (λ n. record { redundancy = n; octets = c.double_octet_of-octets.result }) redundancy ∙ ap (λ n. record { redundancy = bounds.redundancy; octets = n }) octets in
    (same, second.1)

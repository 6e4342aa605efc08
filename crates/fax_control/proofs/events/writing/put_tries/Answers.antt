use Rattle.std.proofs.Common.{◌≡◌, ◌++◌, ◌∙◌, ℕ, List, ap, rules, codes, option_map, append_assoc}
use Rattle.json.specs.Token.{Token}
use Rattle.fax_control.specs.events.Events.{cause_members, number_member}
use Rattle.fax_control.proofs.events.TextLemmas.{Adds-then, Adds-last}
use Rattle.fax_control.proofs.events.writing.put_tries.Goals as goal

pub returns : goal.returns
returns c =
    let same : c.from.result ≡ c.args.tries = first_of (cc, search rules) in
    let cause : List Token = cause_members (option_map (λ text. text.now) c.args.cause) in
    let last : List Token = number_member (codes "last") c.args.last in
    Adds-last c.put_number-2.result _ _ _ _ _ _
    (Adds-then _ _ _ _ _ (c.in_ok-put_cause.ensures) c.in_ok-put_number.ensures)
    c.put_number-2.ensures
    (append_assoc cause (number_member (codes "tries") c.from.result) last ∙ ap (λ (n : ℕ). cause ++ (number_member (codes "tries") n ++ last)) same)

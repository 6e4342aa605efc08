use Rattle.std.proofs.Common.{◌≡◌, ℕ, List, [], ◌∷◌, ◌++◌, ◌∙◌, map, ap, append_assoc, codes}
use Rattle.std.specs.Option.{option_copied}
use Rattle.fax_dialogs.specs.Within.{field_text}
use Rattle.fax_requests.specs.Intervals.{interval_lines}
use Rattle.fax_sip.specs.declared.name.Name.{Name}
use Rattle.fax_sip.specs.declared.name.Name.TheVariants.{Allow, Contact, ContentType}
use Rattle.fax_user_agent.specs.Invites.{credential_lines}
use Rattle.fax_user_agent.proofs.offering.put_invite_fields.Goals as goal

joined : {A : Type 0} (before : List A) (one two : A) (three four last : List A)
    → ((((before ++ one ∷ []) ++ two ∷ []) ++ three) ++ four) ++ last ≡ before ++ (one ∷ two ∷ [] ++ (three ++ (four ++ last)))
joined before one two three four last = simp append_assoc

pub returns : goal.returns
returns c =
    let contact : Name × List ℕ = (Contact, c.args.contact.now) in
    let allow : Name × List ℕ = (Allow, codes "INVITE, ACK, CANCEL, BYE, OPTIONS") in
    let session = interval_lines c.args.interval.now.interval in
    let credential = credential_lines (option_copied c.args.credential) in
    let last : List (Name × List ℕ) = (ContentType, codes "application/sdp") ∷ [] in
    c.in_ok-put_line-3.ensures
    ∙ ap (λ (before : List (Name × List ℕ)). before ++ last) (
    c.in_ok-put_credential.ensures
    ∙ ap (λ (before : List (Name × List ℕ)). before ++ credential) (
    c.in_ok-put.ensures
    ∙ ap (λ (before : List (Name × List ℕ)). before ++ session) (
    c.in_ok-put_line-2.ensures ∙ ap (λ (before : List (Name × List ℕ)). before ++ allow ∷ []) c.in_ok-put_line.ensures)))
    ∙ joined (map field_text c.args.fields.now.items) contact allow session credential last

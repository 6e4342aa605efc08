-- The octets of a request (RFC 3261, 8.1.1).
use Rattle.std.specs.Prelude.{ℕ, ◌^◌, ◌++◌, Bool, true, false, ◌||◌, not, nat_le, nat_eq, if◌then◌else◌, List, [], length, codes, decimal, Option, None, Some, option_map}
use Rattle.std.specs.List.{flat_map, starts_with}
use Rattle.fax_sip.specs.declared.name.Name.{Name}
use Rattle.fax_sip.specs.declared.name.Name.TheVariants as name
use Rattle.fax_sip.specs.declared.requesting.Party.{Party}
use Rattle.fax_sip.specs.declared.requesting.Request.{Request}
use Rattle.fax_sip.specs.declared.write_fault.WriteFault.{WriteFault}
use Rattle.fax_sip.specs.declared.write_fault.WriteFault.TheVariants.{BadMethod, BadAddress, BadSender, BadBranch, BadTag, BadCallId, BadNumber}
use Rattle.fax_sip.specs.Fields.{is_token}
use Rattle.fax_sip.specs.Names.{long}
use Rattle.fax_sip.specs.Permitted.{fields_fault, is_address, is_visible}
use Rattle.fax_sip.specs.Written.{field_octets, header, length_line}

-- ---- lines

-- the method, the Request-URI and the version (7.1)
abbrev pub request_line : List ℕ → List ℕ → List ℕ
request_line method uri = method ++ (codes " " ++ (uri ++ codes " SIP/2.0\r\n"))

abbrev pub branch_part : List ℕ → List ℕ
branch_part branch = codes ";branch=" ++ (branch ++ codes "\r\n")

-- the hop over UDP, with the branch of the transaction (8.1.1.7)
abbrev pub via_line : List ℕ → List ℕ → List ℕ
via_line sent_by branch = codes "Via: SIP/2.0/UDP " ++ (sent_by ++ branch_part branch)

abbrev pub tag_octets : Option (List ℕ) → List ℕ
tag_octets None = []
tag_octets (Some tag) = codes ";tag=" ++ tag

-- `From` or `To`: the address between angle brackets, and the tag where there is one (8.1.1.2, 8.1.1.3)
abbrev pub party_line : Name → Party → List ℕ
party_line name party = long name ++ (codes ": <" ++ (party.uri.now
    ++ (codes ">" ++ (tag_octets (option_map (λ tag. tag.now) party.tag) ++ codes "\r\n"))))

-- the number and the method (8.1.1.5)
abbrev pub number_line : ℕ → List ℕ → List ℕ
number_line number method =
    codes "CSeq: " ++ (decimal number ++ (codes " " ++ (method ++ codes "\r\n")))

-- the first line, the hop, and how often the request may be forwarded (8.1.1.6)
abbrev pub front : Request → List ℕ
front request = request_line request.method.now request.uri.now
    ++ (via_line request.sent_by.now request.branch.now ++ codes "Max-Forwards: 70\r\n")

-- A request: its first lines, its ends, its call and its number, further header lines, the length of its body, an empty line, and the body.
abbrev pub request_octets : Request → List ℕ
request_octets request =
    front request
    ++ (party_line name.From request.from
    ++ (party_line name.To request.to
    ++ (header name.CallId request.call_id.now
    ++ (number_line request.number request.method.now
    ++ (flat_map field_octets request.fields.now
    ++ (length_line (length request.body.now)
    ++ request.body.now))))))

-- ---- faults

abbrev pub has_tag : Option (List ℕ) → Bool
has_tag None = false
has_tag (Some tag) = is_token tag

abbrev pub is_tag_or_none : Option (List ℕ) → Bool
is_tag_or_none None = true
is_tag_or_none (Some tag) = is_token tag

-- of its ends, its call, its number and the further header lines
abbrev pub ends_fault : Request → Option WriteFault
ends_fault request = if not (is_address request.from.uri.now) || not (is_address request.to.uri.now)
    then Some BadAddress else if not (has_tag (option_map (λ tag. tag.now) request.from.tag))
    || not (is_tag_or_none (option_map (λ tag. tag.now) request.to.tag))
    then Some BadTag else if not (is_visible request.call_id.now) then Some BadCallId
    else if nat_le (2 ^ 31) request.number then Some BadNumber else fields_fault request.fields.now

-- Why a request is not written: the first fault of these, in this order.
abbrev pub request_fault : Request → Option WriteFault
request_fault request = if not (is_token request.method.now)
    then Some BadMethod else if not (is_address request.uri.now)
    then Some BadAddress else if not (is_visible request.sent_by.now)
    then Some BadSender else if not (is_token request.branch.now)
    || not (starts_with nat_eq request.branch.now (codes "z9hG4bK"))
    then Some BadBranch else ends_fault request

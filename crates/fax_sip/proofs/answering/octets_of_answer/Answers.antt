use Rattle.std.proofs.Common.{flat_map, length}
use Rattle.fax_sip.specs.Answers.{kept_fields, routes, status_line}
use Rattle.fax_sip.specs.Written.{field_octets, length_line}
use Rattle.fax_sip.specs.Messages.{message_text}
use Rattle.fax_sip.proofs.AnswerLemmas.{answer_parts}
use Rattle.fax_sip.proofs.answering.octets_of_answer.Goals as goal

pub returns : goal.returns
returns c =
    let request = message_text c.args.request.now in
    let reply = c.args.reply.now in
    answer_parts (status_line reply.status reply.reason.now) (kept_fields request reply.tag.now) (routes reply.status request.lines) (flat_map field_octets reply.fields.now) (length_line (length reply.body.now)) reply.body.now
    _ _ _ _ _ _ c.in_ok-octets.ensures c.in_ok-put_kept.ensures c.in_ok-put_routes.ensures c.in_ok-put_fields.ensures c.in_ok-put_length.ensures c.in_ok-extend_from_slice.ensures.items

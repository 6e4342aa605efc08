use Rattle.std.proofs.Common.{◌≡◌, Ok, string_bytes}
use Rattle.std.proofs.lemmas.Result.{IfOk-weaker}
use Rattle.std.proofs.lemmas.Str.{IsUtf8-string_bytes}
use Rattle.fax_sdp.specs.Sessions.{media_of}
use Rattle.fax_sdp.specs.Writing.{CanBeTold, description_lines, text_of, told_media}
use Rattle.fax_sdp.proofs.ToldLemmas.{told_is_read}
use Rattle.fax_sdp.proofs.writing.write_sdp.Goals as goal

pub returns-clause-read_back : goal.returns-clause-read_back
returns-clause-read_back c =
    let origin = c.args.origin.now in
    let sections = c.args.sections.now in
    IfOk-weaker c.description_text.result (λ text. string_bytes text ≡ text_of (description_lines origin sections))
    (λ text. CanBeTold origin sections → media_of (string_bytes text) ≡ Ok (told_media origin sections))
    (λ text is can. told_is_read origin sections (string_bytes text) (IsUtf8-string_bytes text) is can) c.description_text.ensures

use Rattle.std.proofs.Common.{◌≡◌, ◌++◌, List, ℕ, codes, string_bytes, ◌∙◌, ap}
use Rattle.fax_sdp.specs.Writing.{ended, format_lines, medium_line, numbers_of}
use Rattle.fax_sdp.proofs.WriteLemmas.{lines_after}
use Rattle.fax_sdp.proofs.writing.put_audio.Goals as goal

pub returns : goal.returns
returns c =
    let t0 : List ℕ = string_bytes c.args.text.now in
    let t1 : List ℕ = string_bytes c.put_medium.new.text in
    let audio = c.args.audio in
    let line : List ℕ → List ℕ = λ numbers. medium_line (codes "audio") audio.port (codes "RTP/AVP") numbers in
    let first : t1 ≡ t0 ++ ended (line (numbers_of audio.formats)) = c.in_ok-put_medium.ensures ∙ ap (λ numbers. t0 ++ ended (line numbers)) c.numbers_of.ensures in
    lines_after c.put_formats.result t0 t1 (string_bytes c.put_formats.new.text) (line (numbers_of audio.formats)) (format_lines audio.formats) first c.put_formats.ensures

use Rattle.std.proofs.Common.{List, ℕ, ◌∷◌, [], codes, string_bytes}
use Rattle.fax_sdp.proofs.WriteLemmas.{last_line, one_line}
use Rattle.fax_sdp.proofs.writing.put_formats.Goals as goal

pub returns-in_ok-put_line-in-Both : goal.returns-in_ok-put_line-in-Both
returns-in_ok-put_line-in-Both c =
    let t0 : List ℕ = string_bytes c.args.text.now in
    let t1 : List ℕ = string_bytes c.put_line-in-Both.new.text in
    let t2 : List ℕ = string_bytes c.put_line-in-Both-2.new.text in
    let first : List ℕ = codes "a=rtpmap:0 PCMU/8000" in
    let e1 = one_line t0 t1 first c.in_ok-put_line-in-Both.ensures in
    rw c.in-Both.is (last_line c.put_line-in-Both-2.result t0 t1 t2 (first ∷ []) (codes "a=rtpmap:8 PCMA/8000") e1 c.put_line-in-Both-2.ensures)

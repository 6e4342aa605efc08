use Rattle.std.proofs.Common.{List, ℕ, ◌∷◌, ◌++◌, [], codes, decimal, string_bytes}
use Rattle.fax_sdp.specs.Writing.{medium_line}
use Rattle.fax_sdp.proofs.WriteLemmas.{last_line, more_lines, one_line}
use Rattle.fax_sdp.proofs.writing.put_fax.Goals as goal

pub returns : goal.returns
returns c =
    let t0 : List ℕ = string_bytes c.args.text.now in
    let t1 : List ℕ = string_bytes c.put_medium.new.text in
    let t2 : List ℕ = string_bytes c.put_line.new.text in
    let t3 : List ℕ = string_bytes c.put_line-2.new.text in
    let t4 : List ℕ = string_bytes c.put_line-3.new.text in
    let t5 : List ℕ = string_bytes c.put_number.new.text in
    let t6 : List ℕ = string_bytes c.put_number-2.new.text in
    let t7 : List ℕ = string_bytes c.put_line-4.new.text in
    let a1 : List ℕ = medium_line (codes "image") c.args.fax.port (codes "udptl") (codes "t38") in
    let a2 : List ℕ = codes "a=T38FaxVersion:0" in
    let a3 : List ℕ = codes "a=T38MaxBitRate:14400" in
    let a4 : List ℕ = codes "a=T38FaxRateManagement:transferredTCF" in
    let a5 : List ℕ = codes "a=T38FaxMaxBuffer:" ++ decimal c.args.fax.max_buffer in
    let a6 : List ℕ = codes "a=T38FaxMaxDatagram:" ++ decimal c.args.fax.max_datagram in
    let a7 : List ℕ = codes "a=T38FaxUdpEC:t38UDPRedundancy" in
    let e1 = one_line t0 t1 a1 c.in_ok-put_medium.ensures in
    let e2 = more_lines t0 t1 t2 (a1 ∷ []) a2 e1 c.in_ok-put_line.ensures in
    let e3 = more_lines t0 t2 t3 (a1 ∷ a2 ∷ []) a3 e2 c.in_ok-put_line-2.ensures in
    let e4 = more_lines t0 t3 t4 (a1 ∷ a2 ∷ a3 ∷ []) a4 e3 c.in_ok-put_line-3.ensures in
    let e5 = more_lines t0 t4 t5 (a1 ∷ a2 ∷ a3 ∷ a4 ∷ []) a5 e4 c.in_ok-put_number.ensures in
    let e6 = more_lines t0 t5 t6 (a1 ∷ a2 ∷ a3 ∷ a4 ∷ a5 ∷ []) a6 e5 c.in_ok-put_number-2.ensures in
    last_line c.put_line-4.result t0 t6 t7 (a1 ∷ a2 ∷ a3 ∷ a4 ∷ a5 ∷ a6 ∷ []) a7 e6 c.put_line-4.ensures

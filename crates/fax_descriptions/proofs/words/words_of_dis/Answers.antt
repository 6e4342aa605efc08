use Rattle.std.proofs.Common.{◌++◌, ◌∙◌, refl, ap, ap₂, append_assoc}
use Rattle.fax_frames.specs.Capabilities.{rates_in}
use Rattle.fax_descriptions.specs.Words.{offer_text, rates_text, times_text}
use Rattle.fax_descriptions.proofs.words.words_of_dis.Goals as goal

pub returns : goal.returns
returns c =
    let caps = c.args.dis.now.caps.0 in
    let rates = c.in_ok-add_rates.ensures ∙ ap₂ (λ a b. a ++ b) c.in_ok-words.ensures (ap (rates_text 0) c.rates.ensures) in
    let times = c.as_str.ensures.value ∙ c.in_ok-times.ensures.ok ∙ (rw c.scan_ms-standard.ensures.time (rw c.scan_ms-fine.ensures.time refl)) in
    c.in_ok-push_str.ensures.bytes ∙ ap₂ (λ a b. a ++ b) rates times ∙ append_assoc (offer_text caps) (rates_text 0 (rates_in caps)) (times_text caps)

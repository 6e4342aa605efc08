use Rattle.std.proofs.Common.{option_map, ap, ◌∙◌}
use Rattle.fax_sdp.specs.Media.{is_t38}
use Rattle.fax_sdp.specs.Sessions.{medium_text}
use Rattle.fax_switch.proofs.Findings.{found_view}
use Rattle.fax_switch.proofs.describing.first_fax.Goals as goal

pub returns : goal.returns
returns c = ap (option_map medium_text) c.find_fax.ensures ∙ found_view medium_text is_t38 c.args.media.now

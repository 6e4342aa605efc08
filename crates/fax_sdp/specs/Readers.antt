-- What is read, apart from where its texts lie.
use Rattle.std.specs.Prelude.{List, map, option_map}
use Rattle.fax_sdp.specs.declared.reading.Reader.{Reader}
use Rattle.fax_sdp.specs.declared.reading.Session.{Session}
use Rattle.fax_sdp.specs.Sessions.{MediumText, Reading, medium_text}

-- the media of a session
abbrev pub media_text : Session → List MediumText
media_text session = map medium_text session.media.items

abbrev pub reading_of : Reader → Reading
reading_of reader = record {
  host = option_map (λ host. host.now) reader.host;
  direction = reader.direction;
  whole = map medium_text reader.whole.items;
  current = option_map medium_text reader.current;
}

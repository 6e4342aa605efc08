use Rattle.fax_command.proofs.LineFeeds.{feed_within, feed_found, feed_before, feed_none}
use Rattle.fax_command.proofs.lines.line_feed.Goals as goal

pub returns-clause-within : goal.returns-clause-within
returns-clause-within c = feed_within _ _ c.memchr.ensures

pub returns-clause-found : goal.returns-clause-found
returns-clause-found c = feed_found _ _ c.memchr.ensures

pub returns-clause-before : goal.returns-clause-before
returns-clause-before c = feed_before _ _ c.memchr.ensures

pub returns-clause-none : goal.returns-clause-none
returns-clause-none c = feed_none _ _ c.memchr.ensures

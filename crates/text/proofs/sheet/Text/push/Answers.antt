use Rattle.std.proofs.Common.{rules}
use Rattle.text.proofs.Kept.{one_more, no_more}
use Rattle.text.proofs.sheet.Text.push.Goals as goal

pub returns-then-self-lt-TEXT_ROOM-clause-pushed : goal.returns-then-self-lt-TEXT_ROOM-clause-pushed
returns-then-self-lt-TEXT_ROOM-clause-pushed c = rw (← c.self.view_is) (one_more c.self.inside.len c.self.inside.bytes c.args.byte (search rules) (search rules))

pub returns-else-self-lt-TEXT_ROOM-clause-pushed : goal.returns-else-self-lt-TEXT_ROOM-clause-pushed
returns-else-self-lt-TEXT_ROOM-clause-pushed c = rw (← c.self.view_is) (no_more c.self.inside.len c.self.inside.bytes _ (search rules) (search rules))

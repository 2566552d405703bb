-- An event where it is refused: one without any bytes. Assumes nothing.
use Rattle.wire.specs.Outcome.{Outcome, ok, refused}
use Rattle.wire.specs.Parts.{part}
use Rattle.table_map.specs.declared.event.Event.{Event}

-- an event without any bytes
abbrev pub no_event : Event
no_event =
    record {
      id = 0;
      flags = 0;
      database = part 0 0;
      table = part 0 0;
      types = part 0 0;
      metadata = part 0 0;
      bits = part 0 0;
      optional = part 0 0;
    }

-- the event that was read, and where it is refused that without bytes
abbrev pub or_none : Outcome Event → Event
or_none (ok e) = e
or_none (refused r) = no_event

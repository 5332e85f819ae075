-- Drills as the C host asks for them and is answered: the same numbers.
use Rattle.writer.specs.declared.Drilled.{Drilled}
use Rattle.host.specs.declared.drills.Drill.{Drill}

abbrev pub drilled : Drill → Drilled
drilled d = record { number = d.number; bytes = d.bytes; position = d.position }

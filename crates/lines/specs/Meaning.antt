-- What a line record means.
use Rattle.lines.specs.declared.record.Line.{Line}
use Rattle.model.specs.LineRecords as model

abbrev pub line_of : Line → model.Line
line_of l = record { segment = l.segment; task = l.task; order = l.order; start = l.start; end = l.end }

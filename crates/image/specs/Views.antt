-- what the values of the program mean
use Rattle.ihex.specs.Meaning.{content}
use Rattle.image.specs.Files.{Head}
use Rattle.image.specs.Lines.{Cut}
use Rattle.image.specs.declared.entry.Entry.{Entry}
use Rattle.image.specs.declared.line.Line.{Line}

abbrev pub cut_of : Line → Cut
cut_of l = record { line = l.text.now; rest = l.rest.now }

abbrev pub entry_of : Entry → Head
entry_of e = record { content = content e.record; line = e.line.now; rest = e.rest.now }

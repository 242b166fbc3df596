-- The order of work.
use Rattle.bed_words.specs.declared.command.Job.{Job}
use Rattle.bed_top.specs.Views.{View, End, Source}
use Rattle.bed_top.specs.Stages.{Stage, By, Then, Ends}
use Rattle.bed_top.specs.Work.{IsCommanded, IsAsked, lengths_of, IsRead, counted_of, scoped_of, built_of, judged_of, link_end}

-- the words, before any file is read
abbrev pub asking : Stage (Unit {0}) Job
asking = Then IsCommanded IsAsked

-- the texts
abbrev pub front : Stage Job Source
front = Then (By lengths_of) (Then IsRead (Then (By counted_of) (By scoped_of)))

abbrev pub linking : Stage Job Source
linking = Then front (Then (By built_of) (By judged_of))

-- what is due
abbrev pub Due : View → End → Type 0
Due v e = Ends (Then asking linking) tt link_end v e

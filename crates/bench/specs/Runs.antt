-- A run as the definitions see it.
use Rattle.std.specs.Prelude.{◌≡◌, ℕ, List, Ok, Err, vec_items, Option, Result}
use Rattle.fault.specs.declared.refusal.Fault.{Fault}
use Rattle.fault.specs.declared.place.AskedPlace.{AskedPlace}
use Rattle.netcode.specs.declared.step.Step.{Step}
use Rattle.netcode.specs.Layouts.{programs_of}
use Rattle.semantics.specs.declared.state.Mark.{Mark}
use Rattle.semantics.specs.declared.state.Reply.{Reply}
use Rattle.semantics.specs.declared.state.Reply.TheVariants.{Word, Mark as mark_reply, Outside as outside_reply}
use Rattle.semantics.specs.Machine.{World}
use Rattle.bench.specs.Shown.{world}
use Rattle.bench.specs.declared.run.Run.{Run}

-- The programs of a run, and what stands of it with the plant's meaning.
abbrev pub programs_in : Run → List (List Step)
programs_in run = programs_of run.layout (vec_items run.steps)

abbrev pub world_in : {S : Type 0} → Run → S → World S
world_in run plant = world run.machine.state plant

-- Its programs are as they were.
pub record SamePrograms (before after : Run) : Type 0 where
  pub layout : after.layout ≡ before.layout
  pub steps : vec_items after.steps ≡ vec_items before.steps

-- The answers of word-at and mark-at, as replies.
abbrev pub word_answer : Result (Option ℕ) (Fault AskedPlace) → Reply
word_answer (Ok word) = Word word
word_answer (Err fault) = outside_reply fault

abbrev pub mark_answer : Result Mark (Fault AskedPlace) → Reply
mark_answer (Ok mark) = mark_reply mark
mark_answer (Err fault) = outside_reply fault

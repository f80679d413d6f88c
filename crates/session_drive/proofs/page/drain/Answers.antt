use Rattle.std.proofs.Common.{ℕ, List, arith}
use Rattle.ring_words.specs.declared.page.Role.{Role}
use Rattle.vchan_protocol.specs.History.Core.{Core}
use Rattle.vchan_core.specs.declared.plain.Plain.{Plain}
use Rattle.session_drive.specs.Page.{Rests, Drains}
use Rattle.session_drive.proofs.MovingLaws.{drained, drained_none}
use Rattle.session_drive.proofs.page.drain.Goals as goal

rests_after : {core : Core} {who : Role} {page : Plain} {buffer : List ℕ} {count : ℕ} → Drains core who page buffer count → Rests page
rests_after d = record { core = d.after; rested = d.rested }

pub returns-in-Got-clause-drains : goal.returns-in-Got-clause-drains
returns-in-Got-clause-drains c = λ core r. drained core c.args.who _ _ _ _ _ _ r (c.call.ensures core r) (omega arith) _ c.in-Got.is

pub returns-in_default-clause-drains : goal.returns-in_default-clause-drains
returns-in_default-clause-drains c = λ core r. drained_none core c.args.who _ _ _ _ _ _ r (c.call.ensures core r) (omega arith) c.in_default.not-Got

pub returns-in-Got-clause-rests : goal.returns-in-Got-clause-rests
returns-in-Got-clause-rests c = rests_after (returns-in-Got-clause-drains c c.requires.rests.core c.requires.rests.rested)

pub returns-in_default-clause-rests : goal.returns-in_default-clause-rests
returns-in_default-clause-rests c = rests_after (returns-in_default-clause-drains c c.requires.rests.core c.requires.rests.rested)

pub returns-in-Got-clause-within : goal.returns-in-Got-clause-within
returns-in-Got-clause-within c = (returns-in-Got-clause-drains c c.requires.rests.core c.requires.rests.rested).within

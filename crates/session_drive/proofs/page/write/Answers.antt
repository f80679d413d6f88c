use Rattle.std.proofs.Common.{ℕ, List, arith}
use Rattle.ring_words.specs.declared.page.Role.{Role}
use Rattle.vchan_protocol.specs.History.Core.{Core}
use Rattle.vchan_core.specs.declared.plain.Plain.{Plain}
use Rattle.session_drive.specs.Page.{Rests, Writes}
use Rattle.session_drive.proofs.MovingLaws.{wrote, wrote_none}
use Rattle.session_drive.proofs.page.write.Goals as goal

rests_after : {core : Core} {who : Role} {piece : List ℕ} {page : Plain} {count : ℕ} → Writes core who piece page count → Rests page
rests_after w = record { core = w.after; rested = w.rested }

pub returns-in-Wrote-clause-writes : goal.returns-in-Wrote-clause-writes
returns-in-Wrote-clause-writes c = λ core r. wrote core c.args.who _ _ _ _ _ _ _ r (c.call.ensures core r) (omega arith) (λ zero. omega (arith, zero)) _ c.in-Wrote.is

pub returns-in_default-clause-writes : goal.returns-in_default-clause-writes
returns-in_default-clause-writes c = λ core r. wrote_none core c.args.who _ _ _ _ _ _ _ r (c.call.ensures core r) (omega arith) (λ zero. omega (arith, zero)) c.in_default.not-Wrote

pub returns-in-Wrote-clause-rests : goal.returns-in-Wrote-clause-rests
returns-in-Wrote-clause-rests c = rests_after (returns-in-Wrote-clause-writes c c.requires.core c.requires.rested)

pub returns-in-Wrote-clause-few : goal.returns-in-Wrote-clause-few
returns-in-Wrote-clause-few c = (returns-in-Wrote-clause-writes c c.requires.core c.requires.rested).few

pub returns-in_default-clause-rests : goal.returns-in_default-clause-rests
returns-in_default-clause-rests c = rests_after (returns-in_default-clause-writes c c.requires.core c.requires.rested)

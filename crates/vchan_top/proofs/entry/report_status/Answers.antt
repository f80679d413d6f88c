use Rattle.std.proofs.Common.{sym, subst, refl, codes}
use Rattle.vchan_top.specs.Status.{IsAtMostALine, status_line}
use Rattle.vchan_top.proofs.LineLaws.{written_out}
use Rattle.vchan_top.proofs.entry.report_status.Goals as goal

pub returns-in-BadWords-clause-printable : goal.returns-in-BadWords-clause-printable
returns-in-BadWords-clause-printable g c = subst (λ s. IsAtMostALine (status_line s)) (sym c.in-BadWords.is) (written_out (codes "vchan: bad words") refl)

pub returns-in-ReadFault-clause-printable : goal.returns-in-ReadFault-clause-printable
returns-in-ReadFault-clause-printable g c = subst (λ s. IsAtMostALine (status_line s)) (sym c.in-ReadFault.is) (written_out (codes "vchan: read fault") refl)

pub returns-in-TooLong-clause-printable : goal.returns-in-TooLong-clause-printable
returns-in-TooLong-clause-printable g c = subst (λ s. IsAtMostALine (status_line s)) (sym c.in-TooLong.is) (written_out (codes "vchan: input too long") refl)

pub returns-in-WriteFault-clause-printable : goal.returns-in-WriteFault-clause-printable
returns-in-WriteFault-clause-printable g c = subst (λ s. IsAtMostALine (status_line s)) (sym c.in-WriteFault.is) (written_out (codes "vchan: write fault") refl)

pub returns-in-OutOfMemory-clause-printable : goal.returns-in-OutOfMemory-clause-printable
returns-in-OutOfMemory-clause-printable g c = subst (λ s. IsAtMostALine (status_line s)) (sym c.in-OutOfMemory.is) (written_out (codes "vchan: out of memory") refl)

use Rattle.tests_library.proofs.driven.one_call.Goals as goal

pub drive-requires-clause-named : goal.drive-requires-clause-named
drive-requires-clause-named c = record { name = _; gives = c.in-Some.ensures }

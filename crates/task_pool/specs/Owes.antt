-- What a turn of a task may give.
use Rattle.task_pool.specs.declared.task.Turn.{Turn}
use Rattle.task_pool.specs.declared.task.Turn.TheVariants.{Again, Done}

-- the task goes on and owes no more than before, or is done with what it owed
abbrev pub Pays : {T D : Type 0} → (T → D → Type 0) → T → Turn T D → Type 0
Pays {T} {D} owes old (Again new) = (done : D) → owes new done → owes old done
Pays {T} {D} owes old (Done done) = owes old done

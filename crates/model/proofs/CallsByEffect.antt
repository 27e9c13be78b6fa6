-- The calls of a job by what they change: most touch only the jobs' rows.
use Rattle.std.proofs.Common.{◌≡◌, ℕ, refl}
use Rattle.model.specs.Calls.{Action, Spelling, find, make, nod, same, settle, spelling_of, store}
use Rattle.model.specs.Machine.{Job, State, with_jobs}
use Rattle.model.specs.Tables.{job_effect}

pub data Effect (s : State) (j pick : ℕ) : Action → Type 0 where
  rows_alone : {a : Action} (rows : ℕ → Job) → (job_effect s j a pick).after ≡ with_jobs s rows s.last_job → Effect s j pick a
  nods : Effect s j pick nod
  makes : (h w : ℕ) → Effect s j pick (make h w)
  settles_name : (name : Spelling) (h w : ℕ) → Effect s j pick (settle name h w)
  finds : (name : Spelling) (h : ℕ) → Effect s j pick (find name h)
  stores : (g i h : ℕ) → Effect s j pick (store g i h)

pub effect_of : (s : State) (j pick : ℕ) (a : Action) → Effect s j pick a
effect_of s j pick nod = nods
effect_of s j pick (make h w) = makes h w
effect_of s j pick (settle name h w) = settles_name name h w
effect_of s j pick (find name h) = finds name h
effect_of s j pick (store g i h) = stores g i h
effect_of s j pick (same g h) = rows_alone s.job refl
effect_of s j pick (spelling_of h n) = rows_alone s.job refl
effect_of s j pick _ = rows_alone _ refl

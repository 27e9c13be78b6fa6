-- Written out, though `search` finds it where the definitions unfold: so an error names the case.
use Rattle.std.proofs.Common.{refl}
use Rattle.spelling.specs.Settling.{settle, spelled}
use Rattle.model.specs.Machine.{first, next_vacant, filed}
use Rattle.model.specs.Cycle.{grey_all, nodded, scanned}
use Rattle.model.specs.Tables.{walk, taken, filed_on, found_into, outcome}
use Rattle.examples.proofs.worked_cases_hold.Goals as goal

pub returns : goal.returns
unfolding settle spelled first next_vacant filed grey_all nodded scanned walk taken filed_on found_into outcome
returns c =
    record {
      settling = record {
        path = refl;
        spellings = refl;
        slash = refl;
        nothing = refl;
        forty = refl;
        forty_one = refl;
        longest = refl;
        too_long = refl;
        allowed = refl;
        too_low = refl;
        too_high = refl;
        room = refl;
        no_room = refl;
        first_refusal = refl;
      };
      store = record {
        one_name = refl;
        lost = refl;
        found_first = refl;
        found_late = refl;
        bound = refl;
        found_and_dropped = refl;
        swept = refl;
        not_yet_swept = refl;
        refusals = refl;
        no_cells = refl;
        all_jobs_open = refl;
      };
    }

-- The book: what the jobs may rely on, told without cells, cards, colours or phases. It is fed each granted call, and
-- whether settle found or made.
use Rattle.std.specs.Prelude.{ℕ, zero, suc, Bool, true, false, if◌then◌else◌, ◌≢◌, List, [], ◌∷◌, bytes_eq, Option, Some, None}
use Rattle.model.specs.Machine.{upd}
use Rattle.model.specs.Calls.{text, Action, close, make, settle, find, load, store, copy, drop_hand, follow}
use Rattle.model.specs.Calls.{Call, by, Answer, found}

-- records are numbered from 1 in the order of their making, and 0 is none: what each hand of each job holds, how many
-- records were made, and of each record its width, its slots and its name
pub record Book : Type 0 where
  pub holds : ℕ → ℕ → ℕ
  pub count : ℕ
  pub width : ℕ → ℕ
  pub slot : ℕ → ℕ → ℕ
  pub name : ℕ → Option (List ℕ)

-- the book of a new store
abbrev pub new_book : Book
new_book = record { holds = λ j h. 0; count = 0; width = λ r. 0; slot = λ r i. 0; name = λ r. None }

-- a record goes into a hand
abbrev pub hold : Book → ℕ → ℕ → ℕ → Book
hold b j h r = record b { holds = upd b.holds j (upd (b.holds j) h r) }

-- one more record, with empty slots
abbrev pub new_record : Book → ℕ → Option (List ℕ) → Book
new_record b w n = record b {
  count = suc b.count;
  width = upd b.width (suc b.count) w;
  slot = upd b.slot (suc b.count) (λ i. 0);
  name = upd b.name (suc b.count) n;
}

-- slot i of record r gets v
abbrev pub write_slot : Book → ℕ → ℕ → ℕ → Book
write_slot b r i v = record b { slot = upd b.slot r (upd (b.slot r) i v) }

-- whether a record's name is a text
abbrev pub is_named : Option (List ℕ) → List ℕ → Bool
is_named None t = false
is_named (Some n) t = bytes_eq n t

-- the latest of the first n records that bears a name, or 0
unfoldable pub latest : (ℕ → Option (List ℕ)) → ℕ → List ℕ → ℕ
latest names zero t = 0
latest names (suc n) t = let earlier = latest names n t in if is_named (names (suc n)) t then suc n else earlier

-- the record that a name stands for: the latest that was made under it
abbrev pub bearer : Book → List ℕ → ℕ
bearer b t = latest b.name b.count t

-- where a path of slots leads from a record
unfoldable pub led : (ℕ → ℕ → ℕ) → ℕ → List ℕ → ℕ
led slot r [] = r
led slot r (i ∷ is) = led slot (slot r i) is

-- settle answered found
abbrev pub is_found : Answer → Bool
is_found found = true
is_found _ = false

-- settle, told whether it found
abbrev pub write_settle : Bool → Book → ℕ → List ℕ → ℕ → ℕ → Book
write_settle true b j t h w = hold b j h (bearer b t)
write_settle false b j t h w = hold (new_record b w (Some t)) j h (suc b.count)

-- what a granted call of a job does to the book: those not named here leave it as it is
abbrev pub write_job : Book → ℕ → Action → Answer → Book
write_job b j close a = record b { holds = upd b.holds j (λ h. 0) }
write_job b j (make h w) a = hold (new_record b w None) j h (suc b.count)
write_job b j (settle name h w) a = write_settle (is_found a) b j (text name) h w
write_job b j (find name h) a = hold b j h (bearer b (text name))
write_job b j (load g i h) a = hold b j h (b.slot (b.holds j g) i)
write_job b j (store g i h) a = write_slot b (b.holds j g) i (b.holds j h)
write_job b j (copy g h) a = hold b j h (b.holds j g)
write_job b j (drop_hand h) a = hold b j h 0
write_job b j (follow g path h) a = hold b j h (led b.slot (b.holds j g) path)
write_job b j _ a = b

-- ... and any call: those of no job leave it too
abbrev pub write : Book → Call → Answer → Book
write b (by j a) answer = write_job b j a answer
write b _ answer = b

-- a record leads to another through slots
pub data Leads (b : Book) : ℕ → ℕ → Type 0 where
  here : {r : ℕ} → Leads b r r
  through : {r t : ℕ} (i : ℕ) → b.slot r i ≢ 0 → Leads b (b.slot r i) t → Leads b r t

-- a hand reaches a record: it holds one that leads there
pub data Reached (b : Book) (r : ℕ) : Type 0 where
  from_hand : (j h : ℕ) → b.holds j h ≢ 0 → Leads b (b.holds j h) r → Reached b r

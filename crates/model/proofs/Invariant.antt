-- What every run keeps: the invariant. Each part speaks of just the components that it reads, so that a change of others
-- leaves it as it is.
-- After the commit the white records are doomed: all of them until the sweep, those not yet swept in SWEEPING. A used
-- cell that is not doomed is kept. Hands and kept records lead to kept records only.
use Rattle.std.proofs.Common.{◌≡◌, ℕ, ◌<◌, ◌≤◌, Bool, true, false, T, ◌≢◌, List, [], ◌∷◌, length, Option, Some, None}
use Rattle.model.specs.declared.Colour.{Colour}
use Rattle.model.specs.declared.Colour.TheVariants.{Black, Grey, White}
use Rattle.model.specs.declared.Phase.{Phase}
use Rattle.model.specs.declared.Phase.TheVariants.{Arming, Cleaning, Normal, Parting, Repeat, Scanning, Sweeping, Tracing}
use Rattle.model.specs.Book.{Book, latest}
use Rattle.model.specs.Machine.{Card, Cell, Job, State, among, at, card_of, colour, is_open, slots}
use Rattle.model.specs.Promise.{Bears}
use Rattle.model.specs.Runs.{World}

-- whether a white record is spared, that is, not doomed
abbrev pub Spared : Phase → ℕ → ℕ → Type 0
Spared Cleaning cur c = ⊥
Spared Parting cur c = ⊥
Spared Sweeping cur c = c < cur
Spared _ cur c = Unit {0}

-- a kept record
pub record Kept (p : Phase) (cur c : ℕ) (x : Cell) : Type 0 where
  pub in_use : colour x ≢ None
  pub spared : colour x ≡ Some White → Spared p cur c

-- a marked record is grey or black
abbrev pub Marked : Option Colour → Type 0
Marked (Some Grey) = Unit {0}
Marked (Some Black) = Unit {0}
Marked _ = ⊥

-- a protected record will be marked before the commit: it is marked already, or a protected record that is not black
-- leads to it (the weak tricolour invariant, with grey-protected records)
pub data Protected (f : ℕ → Cell) : ℕ → Type 0 where
  marked : {c : ℕ} → Marked (colour (f c)) → Protected f c
  via : {q c : ℕ} (i : ℕ) → Protected f q → colour (f q) ≢ Some Black → at (slots (f q)) i ≡ c → c ≢ 0 → Protected f c

-- the phases in which hands and black records lead to protected records only
abbrev pub Marking : Phase → Type 0
Marking p = T (among (Scanning ∷ Tracing ∷ Repeat ∷ []) p)

-- the phases in which calls grey records
abbrev pub Greying : Phase → Type 0
Greying p = T (among (Arming ∷ Scanning ∷ Tracing ∷ Repeat ∷ []) p)

-- which colours a cell may have
abbrev pub ColourOk : Phase → ℕ → ℕ → Option Colour → Type 0
ColourOk Normal cur c l = (l ≢ Some Grey) × (l ≢ Some Black)
ColourOk Arming cur c l = l ≢ Some Black
ColourOk Tracing cur c l = c < cur → l ≢ Some Grey
ColourOk Cleaning cur c l = l ≢ Some Grey
ColourOk Parting cur c l = l ≢ Some Grey
ColourOk Sweeping cur c l = (l ≢ Some Grey) × (c < cur → l ≢ Some Black)
ColourOk _ cur c l = Unit {0}

-- which flags an open job may have: armed, and owing a nod
abbrev pub Flags : Phase → Bool → Bool → Type 0
Flags Normal a o = a ≡ false
Flags Arming a o = o ≡ false → a ≡ true
Flags Scanning a o = a ≡ true
Flags Tracing a o = (a ≡ true) × (o ≡ false)
Flags Repeat a o = (a ≡ true) × (o ≡ false)
Flags Cleaning a o = Unit {0}
Flags Parting a o = o ≡ false → a ≡ false
Flags Sweeping a o = a ≡ false

-- the heap: cell 0 is none, used cells lie inside, and the tricolour invariant holds
pub record HeapOk (size : ℕ) (f : ℕ → Cell) (p : Phase) (cur : ℕ) : Type 0 where
  pub no_zero : colour (f 0) ≡ None
  pub inside : (c : ℕ) → colour (f c) ≢ None → c ≤ size
  pub colours : (c : ℕ) → ColourOk p cur c (colour (f c))
  pub leads : (c : ℕ) → Kept p cur c (f c) → (i : ℕ) → at (slots (f c)) i ≢ 0 →
      Kept p cur (at (slots (f c)) i) (f (at (slots (f c)) i))
  pub protects : Marking p → (c : ℕ) → colour (f c) ≡ Some Black → (i : ℕ) → at (slots (f c)) i ≢ 0 →
      Protected f (at (slots (f c)) i)

-- a job's row
pub record JobOk (f : ℕ → Cell) (p : Phase) (cur : ℕ) (j : ℕ) (b : Job) : Type 0 where
  pub range : is_open b.status ≡ true → (1 ≤ j) × (j ≤ 16)
  pub eight : length b.hands ≡ 8
  pub shut : is_open b.status ≡ false → (h : ℕ) → at b.hands h ≡ 0
  pub flags : is_open b.status ≡ true → Flags p b.armed b.owes
  pub roots : (h : ℕ) → at b.hands h ≢ 0 → Kept p cur (at b.hands h) (f (at b.hands h))
  pub protected : Marking p → b.owes ≡ false → (h : ℕ) → at b.hands h ≢ 0 → Protected f (at b.hands h)

-- a card that does not read as empty
pub record Live (f : ℕ → Cell) (p : Phase) (x : Card) : Type 0 where
  pub filled : x.record_at ≢ 0
  pub not_white : p ≡ Cleaning → colour (f x.record_at) ≢ Some White

-- the cards: a live one holds a kept record that points back to it, a kept record with a card is on it, and live ones
-- bear different names; in CLEANING those before the cursor are done
pub record CardsOk (f : ℕ → Cell) (p : Phase) (cur : ℕ) (card : ℕ → Card) : Type 0 where
  pub ranged : (k : ℕ) → (card k).record_at ≢ 0 → (1 ≤ k) × (k ≤ 512)
  pub live : (k : ℕ) → Live f p (card k) → Kept p cur (card k).record_at (f (card k).record_at) ×
      (card_of (f (card k).record_at) ≡ k) × (1 ≤ k) × (k ≤ 512)
  pub back : (c : ℕ) → Kept p cur c (f c) → card_of (f c) ≢ 0 → (card (card_of (f c))).record_at ≡ c
  pub distinct : (k m : ℕ) → Live f p (card k) → Live f p (card m) → (card k).spelling ≡ (card m).spelling → k ≡ m
  pub cleared : p ≡ Cleaning → (k : ℕ) → 1 ≤ k → k < cur → (card k).record_at ≢ 0 → colour (f (card k).record_at) ≢ Some White

-- a number of the store stands for a record of the book, or both for none
pub record StandsFor (place : ℕ → ℕ) (r v : ℕ) : Type 0 where
  pub is : v ≡ place r
  pub none_is : v ≡ 0 → r ≡ 0

abbrev pub HandsOk : (ℕ → Job) → (ℕ → ℕ → ℕ) → (ℕ → ℕ) → Type 0
HandsOk job holds place = (j : ℕ) (h : ℕ) → StandsFor place (holds j h) (at (job j).hands h)

-- what the book says of a record, its cell and its card say
pub record RecOk (card : ℕ → Card) (place : ℕ → ℕ) (w : ℕ) (slot : ℕ → ℕ) (n : Option (List ℕ)) (x : Cell) : Type 0 where
  pub wide : length (slots x) ≡ w
  pub holds : (i : ℕ) → StandsFor place (slot i) (at (slots x) i)
  pub bears : Bears card n (card_of x)

-- the records of the book: standing ones have cells of their own, a used cell is that of some record, and a live card
-- holds the latest record of its name
pub record RecsOk (f : ℕ → Cell) (p : Phase) (cur : ℕ) (card : ℕ → Card) (count : ℕ) (width : ℕ → ℕ) (slot : ℕ → ℕ →
    ℕ) (name : ℕ → Option (List ℕ)) (place : ℕ → ℕ) : Type 0 where
  pub none_at : place 0 ≡ 0
  pub unmade : (r : ℕ) → count < r → place r ≡ 0
  pub unmade_slots : (r i : ℕ) → count < r → slot r i ≡ 0
  pub one_place : (r t : ℕ) → place r ≡ place t → place r ≢ 0 → r ≡ t
  pub stands : (r : ℕ) → place r ≢ 0 → colour (f (place r)) ≢ None
  pub owner : (c : ℕ) → colour (f c) ≢ None → (r : ℕ) × (place r ≡ c)
  pub recs : (r : ℕ) → place r ≢ 0 → Kept p cur (place r) (f (place r)) →
      RecOk card place (width r) (slot r) (name r) (f (place r))
  pub newest : (k : ℕ) → Live f p (card k) → place (latest name count (card k).spelling) ≡ (card k).record_at

-- the invariant
pub record Inv (s : State) (b : Book) (place : ℕ → ℕ) : Type 0 where
  pub heap : HeapOk s.size s.cell s.phase s.cursor
  pub jobs : (j : ℕ) → JobOk s.cell s.phase s.cursor j (s.job j)
  pub cards : CardsOk s.cell s.phase s.cursor s.card
  pub hands : HandsOk s.job b.holds place
  pub recs : RecsOk s.cell s.phase s.cursor s.card b.count b.width b.slot b.name place
  pub lasts : (s.last_card ≤ 512) × (s.last_job ≤ 16)

-- ... of a world
abbrev pub Sound : World → Type 0
Sound x = Inv x.state x.book x.place

-- the record in a cell is kept, and a card is live, in a store
abbrev pub Keeps : State → ℕ → Type 0
Keeps s c = Kept s.phase s.cursor c (s.cell c)

abbrev pub LiveCard : State → ℕ → Type 0
LiveCard s k = Live s.cell s.phase (s.card k)

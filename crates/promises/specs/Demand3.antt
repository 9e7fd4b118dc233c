-- Demand 3: a plan's rows are delivered once and in order, and any stretch of reads that is replaced is made good with
-- the next lead quiet that is heard. It holds with all clocks that keep to their ends and reach the wave's end, of
-- which steady clocks are a case, and on a pair that is laid straight or crossed.
-- The definitions are those that the operations' contracts cite: the sender leaves `plan_wave` in the lent output, each
-- pass of the line leaves its list, and the receiver, given one read a call, reports what feeding `next` reports
-- (Hearing).
use Rattle.std.specs.Prelude.{ℕ, ◌+◌, ◌-◌, ◌≤◌, ◌≡◌, true, List, [], ◌∷◌, ◌++◌, length}
use Rattle.settings.specs.Margins.{steady, m1 as M1, m2 as M2, m3 as M3, m4 as M4, m5 as M5, zero_or_more}
use Rattle.sender.specs.Sending.{Row}
use Rattle.board.specs.Rows.{Settings, fresh}
use Rattle.board.specs.Feeding.{Report, reports}
use Rattle.measure.specs.Levels.{Levels}
use Rattle.promises.specs.Places.{Scene, Clocks, steadily, Link, line_wave, scene}
use Rattle.promises.specs.Places.{cycles_of, last_from, within_lead, heard, last_after, last_sample, deliveries}
use Rattle.promises.specs.Reaching.{ClocksFit, equal_lengths}
use Rattle.promises.specs.Replaced.{damaged, WhollyAfter, below, above, moved}

-- D20: each row has n bits and a lead with M5 zero or more
abbrev pub RowsFit : Scene → List Row → Type 0
RowsFit x [] = Unit {0}
RowsFit x (row ∷ rows) =
    (length row.bits ≡ x.n)
    × Levels row.bits
    × (zero_or_more (M5 x.g x.ends x.Q row.lead) ≡ true)
    × RowsFit x rows

-- D20: What is asked of the settings and the rows. None of the rules' upper limits is, and that reads and cycles take
-- time follows from M2 and M1.
pub record Asked (x : Scene) : Type 0 where
  pub settles : 1 ≤ x.g
  pub some_bits : 1 ≤ x.n
  pub rows : RowsFit x x.rows
  pub m1 : zero_or_more (M1 x.a x.g x.ends) ≡ true
  pub m2 : zero_or_more (M2 x.a x.g x.k x.ends) ≡ true
  pub m3 : zero_or_more (M3 x.a x.b x.g x.k x.ends) ≡ true
  pub m4 : zero_or_more (M4 x.a x.b x.g x.ends x.Q) ≡ true

-- D20: of a link
pub record Fitting (x : Link) : Type 0 where
  pub asked : Asked (scene x)
  pub choices : Levels x.choices
  pub clocks : ClocksFit x.clocks (line_wave x)

-- D17: the last m cycles of a row's lead are quiet enough by themselves: M5 is zero or more for m
pub record LongEnough (x : Scene) (row : Row) (m : ℕ) : Type 0 where
  pub within : m ≤ row.lead
  pub m5 : zero_or_more (M5 x.g x.ends x.Q m) ≡ true

-- D17, D18: What is asked after a stretch, where lead cycles of a row, so many from a cycle on, are read wholly after
-- it: after the read with which they have been heard exactly that row and those after it are delivered.
abbrev pub After : (x : Scene) (hear : List ℕ → List Report) (cycle lead : ℕ) (earlier : List Row) (row : Row)
    (later : List Row) → Type 0
After x hear cycle lead earlier row later = (i j : ℕ) (junk : List ℕ) → i ≤ j → j ≤ length x.reads
    → WhollyAfter x cycle lead j
    → above (i + length junk + (heard x cycle lead - j)) (hear (damaged x i j junk))
    ≡ moved i j junk (deliveries x (cycles_of x earlier) (row ∷ later))

-- D16, D17: demand 3 of whatever hears: of a function from reads to reports.
pub record Demand3 (x : Scene) (hear : List ℕ → List Report) : Type 0 where
  -- Ahead of the stretch: the rows that end there by their last sample are delivered, these and no others, and nothing
  -- is broken.
  pub before : (i j : ℕ) (junk : List ℕ) → i ≤ j → j ≤ length x.reads
      → below i (hear (damaged x i j junk)) ≡ below i (deliveries x 0 x.rows)
  -- After the stretch: said of the last m cycles of a row's lead, for any m that is long enough. With m the lead this
  -- is the user's own wording (UserWording). Of the first such row it says most.
  pub after : (earlier : List Row) (row : Row) (later : List Row) → x.rows ≡ earlier ++ row ∷ later
      → (m : ℕ) → LongEnough x row m → After x hear (last_from x earlier row m) m earlier row later

-- D17: The user's own wording, of a row's whole lead, which begins with the row: what is heard by demand 3 is so heard.
abbrev pub UserWording : Type 0
UserWording = (x : Scene) (hear : List ℕ → List Report) → Asked x → Demand3 x hear
    → (earlier : List Row) (row : Row) (later : List Row) → x.rows ≡ earlier ++ row ∷ later
    → After x hear (cycles_of x earlier) row.lead earlier row later

-- D3: the receiver's settings
abbrev pub receiver_settings : Scene → Settings
receiver_settings x = record { k = x.k; n = x.n; Q = x.Q }

-- D3: what is promised of the rules, on a straight pair and on a crossed one, with steady clocks and with any others
-- that keep to their ends and reach the wave's end
abbrev pub Demand3Holds : Type 0
Demand3Holds = (x : Link) → Fitting x → Demand3 (scene x) (reports (receiver_settings (scene x)) fresh 0)

-- D14: What demand 3 takes for granted. Q reads lie within the last m cycles of each lead, for each m that is long
-- enough, and each last sample is a read, the same whichever of these m it is counted from; where these cycles are read
-- wholly after the stretch, they are heard after it, and the last samples from their row on are read after that, so
-- neither difference stops at 0.
pub record Grounds (x : Scene) : Type 0 where
  pub leads : (earlier : List Row) (row : Row) (later : List Row) → x.rows ≡ earlier ++ row ∷ later
      → (m : ℕ) → LongEnough x row m → x.Q ≤ length (within_lead x (last_from x earlier row m) m)
  pub samples : below (length x.reads) (deliveries x 0 x.rows) ≡ deliveries x 0 x.rows
  pub same_sample : (earlier : List Row) (row : Row) (later : List Row) → x.rows ≡ earlier ++ row ∷ later
      → (m : ℕ) → LongEnough x row m
      → last_after x (heard x (last_from x earlier row m) m) ≡ last_sample x (cycles_of x earlier) row
  pub heard_after : (earlier : List Row) (row : Row) (later : List Row) → x.rows ≡ earlier ++ row ∷ later
      → (m : ℕ) → LongEnough x row m → (j : ℕ) → WhollyAfter x (last_from x earlier row m) m j
      → j ≤ heard x (last_from x earlier row m) m
  pub sampled_after : (earlier : List Row) (row : Row) (later : List Row) → x.rows ≡ earlier ++ row ∷ later
      → (m : ℕ) → LongEnough x row m
      → above (heard x (last_from x earlier row m) m) (deliveries x (cycles_of x earlier) (row ∷ later))
      ≡ deliveries x (cycles_of x earlier) (row ∷ later)

-- D14
abbrev pub GroundsHold : Type 0
GroundsHold = (x : Link) → Fitting x → Grounds (scene x)

-- D24: a link with other clocks
abbrev pub with_clocks : Link → Clocks → Link
with_clocks x clocks =
    record {
      a = x.a;
      b = x.b;
      g = x.g;
      k = x.k;
      n = x.n;
      Q = x.Q;
      clocks = clocks;
      pair = x.pair;
      rows = x.rows;
      high_after = x.high_after;
      choices = x.choices;
    }

-- D24: a link with steady clocks, and with lists of equal lengths in their place
abbrev pub steadied : (x : Link) (w r p : ℕ) → Link
steadied x w r p = with_clocks x (steadily w r p)

-- D24
abbrev pub by_lists : (x : Link) (w r p : ℕ) → Link
by_lists x w r p = with_clocks x (equal_lengths (steady w r) w r p (line_wave x))

-- D24: Steady clocks are a case of lengths: the same reads, the same times as far as the wave goes, and whatever meets
-- demand 3 with equal lengths meets it in i·w and p + j·r.
pub record SteadyCase (x : Link) (w r p : ℕ) : Type 0 where
  pub fits : Fitting (by_lists x w r p)
  pub same_reads : (scene (by_lists x w r p)).reads ≡ (scene (steadied x w r p)).reads
  pub same_starts : (i : ℕ) → i ≤ length (line_wave x)
      → (scene (by_lists x w r p)).starts i ≡ (scene (steadied x w r p)).starts i
  pub same_begins : (j : ℕ) → j ≤ length (scene (steadied x w r p)).reads
      → (scene (by_lists x w r p)).begins j ≡ (scene (steadied x w r p)).begins j
  pub demand : (hear : List ℕ → List Report) → Demand3 (scene (by_lists x w r p)) hear
      → Demand3 (scene (steadied x w r p)) hear

-- D24
abbrev pub SteadyClocksAreACase : Type 0
SteadyClocksAreACase = (x : Link) (w r p : ℕ) → Fitting (steadied x w r p) → SteadyCase x w r p

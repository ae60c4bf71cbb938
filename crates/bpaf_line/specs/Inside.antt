-- What a `State` and its `Steps` are kept as, and what they then mean: what is kept of a left scope
-- and of taken places, and the chains of the line. No contract above this crate speaks of these.
use Rattle.std.specs.Prelude.{ℕ, Bool, ◌≡◌, ◌≤◌, ◌+◌, ◌&&◌, List, [], ◌∷◌, length, nat_le, nat_lt}
use Rattle.std.specs.Prelude.{◌<◌, ◌*◌, map, string_bytes, IfSome, slice_get, Some, vec_capacity}
use Rattle.bpaf_line.specs.Situation.{Situation, with_scope, cut_to, open_count, IsFirstPresent}
use Rattle.std.specs.{declared.alloc.Global.Global, declared.rc.RcSlice.RcSlice, Rc.rc_slice_items}
use Rattle.std.specs.{Option.option_map_or, Prelude.Option, Int.from_bool}
use Rattle.bpaf_line.specs.declared.taken.TakenPlaces.TheVariants.{Empty, One, Many}
use Rattle.bpaf_line.specs.Situation.{is_taken, TakenInTurn, AreTaken}
use Rattle.bpaf_line.specs.{declared.mark.Steps.TheInside.Inside as InsideSteps, Marks.Changes}
use Rattle.bpaf_line.specs.{declared.taken.TakenPlaces.TakenPlaces, declared.find.Sought.Sought}
use Rattle.bpaf_line.specs.{declared.state.State.TheInside.Inside, declared.aside.Aside.Aside}
use Rattle.bpaf_base.specs.{Items.is_argument_key, declared.arg.Arg.Arg, Names.Names}
use Rattle.bpaf_index.specs.{Chained.Chained, Chained.AreBehind, Chained.HasNoKeyFrom, Bits.has_bit}

-- a scope of no places
abbrev pub no_aside : Aside
no_aside = record { start = 0; end = 0; left = 0; first = 0; taken = 0 }

-- how many of some places lie in a scope
abbrev pub count_within : ℕ → ℕ → List ℕ → ℕ
count_within start end [] = 0
count_within start end (p ∷ places) =
    from_bool (nat_le start p && nat_lt p end) + count_within start end places

-- how many places are present in another scope, and which is the first
pub record IsSurvey (s : Situation) (start end left place : ℕ) : Type 0 where
  pub counted : left ≡ open_count (with_scope s start end)
  pub first : IsFirstPresent (with_scope s start end) place

-- the scope was so when only the first of the taken places were
pub record IsAside (s : Situation) (aside : Aside) : Type 0 where
  pub taken : aside.taken ≤ length s.trail
  pub survey : IsSurvey (cut_to s aside.taken) aside.start aside.end aside.left aside.first

-- the places, whatever they are kept in
abbrev pub places_of : TakenPlaces → List ℕ
places_of Empty = []
places_of (One place) = place ∷ []
places_of (Many places) = places.items

-- the chains are those of the situation's line, and what they passed is taken
abbrev pub AreChainsOf : Situation → Chained → Type 0
AreChainsOf s chains = AreBehind s.context.line (is_taken s) chains

-- the names of a key that is looked for
abbrev pub sought_names : Sought → Names
sought_names key = record { shorts = key.shorts.now; longs = key.longs.now }

-- an item is such a key
abbrev pub is_sought : Sought → Arg → Bool
is_sought key = is_argument_key (sought_names key) key.adjacent

-- the entries of an environment that is kept where there is one
abbrev pub shared_entries : Option (RcSlice (List ℕ × List ℕ) Global) → List (List ℕ × List ℕ)
shared_entries env = option_map_or rc_slice_items env []

-- the situation that a kept state means
abbrev pub situation_of : Inside → Situation
situation_of s = record {
  context =
      record { line = s.items.items; marker = s.marker; env = shared_entries s.env; name = s.name };
  trail = s.trail.items;
  conflicts = s.conflicts.items;
  start = s.start;
  end = s.end;
  path = map string_bytes s.path.items;
  current = s.current;
}

-- the bits are those of the taken places
abbrev pub BitsOf : Situation → List ℕ → Type 0
BitsOf s words = (p : ℕ) → p < length s.context.line → has_bit words p ≡ is_taken s p

-- for a situation each place has its bit, the trail has room for all places, each of which was
-- present when it was taken, the scope lies in the line, the count of the present ones and the
-- first of them are right, what is kept of a scope that was left was so there, what stands before
-- the chains is taken, no key stands from the kept place on, from there all is taken up to a place
-- of the line, and the path begins with the set name
pub record IsSoundAt (kept : Inside) (s : Situation) : Type 0 where
  pub bit_for_each : length s.context.line ≤ 64 * length kept.bits.items
  pub bits : BitsOf s kept.bits.items
  pub room : length s.context.line ≤ vec_capacity kept.trail
  pub in_turn : TakenInTurn s
  pub ordered : s.start ≤ s.end
  pub inside : s.end ≤ length s.context.line
  pub counted : kept.left ≡ open_count s
  pub first : IsFirstPresent s kept.first
  pub aside : IsAside s kept.aside
  pub chained : IfSome kept.chains (AreChainsOf s)
  pub keyless : HasNoKeyFrom s.context.line kept.keys_end
  pub behind : AreTaken s kept.keys_end kept.behind
  pub behind_inside : kept.behind ≤ length s.context.line
  pub named : IfSome s.context.name (λ n. slice_get s.path 0 ≡ Some n)

-- it is so for the situation that a kept state means
abbrev pub IsSound : Inside → Type 0
IsSound kept = IsSoundAt kept (situation_of kept)

-- the changes that kept steps mean
abbrev pub changes_of : InsideSteps → Changes
changes_of s = record {
  taken = places_of s.taken;
  conflicts = s.conflicts.items;
  path = map string_bytes s.path.items;
  start = s.start;
  end = s.end;
  current = s.current;
}

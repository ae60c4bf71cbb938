-- What a run is given, as contracts see it.
use Rattle.std.specs.Prelude.{◌≡◌, ℕ, List, [], map, Option, None, option_map, string_bytes, String}
use Rattle.std.specs.declared.collections.BTreeMap.{BTreeMap}
use Rattle.std.specs.{declared.alloc.Global.Global, Option.option_map_or}
use Rattle.bpaf_words.specs.declared.args.Words.TheVariants.{Strs, Strings}
use Rattle.bpaf_words.specs.{declared.args.Words.Words, declared.args.Args.Args}

-- given words, by their bytes
abbrev pub words_in : Words → List (List ℕ)
words_in (Strs words) = map (λ w. w.now) words.now
words_in (Strings words) = map string_bytes words.now

-- the entries of an environment, by their bytes
abbrev pub entries_of : BTreeMap (String Global) (String Global) Global → List (List ℕ × List ℕ)
entries_of env = map (λ e. (string_bytes e.0, string_bytes e.1)) env.entries

-- what a run is given: words, an environment, and perhaps a name
pub record Given : Type 0 where
  pub words : List (List ℕ)
  pub env : List (List ℕ × List ℕ)
  pub name : Option (List ℕ)

-- that of a value of the program; without an environment no entries
abbrev pub given_of : Args → Given
given_of args = record {
  words = words_in args.words;
  env = option_map_or (λ e. entries_of e.now) args.env [];
  name = option_map (λ n. n.now) args.name;
}

-- the words
abbrev pub words_of : Args → List (List ℕ)
words_of args = (given_of args).words

-- the set name
abbrev pub given_name : Args → Option (List ℕ)
given_name args = (given_of args).name

-- the environment
abbrev pub env_of : Args → List (List ℕ × List ℕ)
env_of args = (given_of args).env

-- these words, no name and no environment
pub record AreWords (given : List (List ℕ)) (args : Args) : Type 0 where
  pub words : words_of args ≡ given
  pub name : given_name args ≡ None
  pub env : env_of args ≡ []

-- The tiger of two doors, for the worked example: states 0 and 1 are tiger-left and tiger-right, actions 0, 1 and 2 are listen,
-- open-left and open-right, and observations 0 and 1 are hearing the tiger on the left and on the right.
--
-- Source: Kaelbling, Littman and Cassandra, Planning and acting in partially observable stochastic domains (1998).
use Rattle.std.specs.Prelude.{ℕ, zero, suc, ℤ, pos, neg_ℤ, ◌==◌, if◌then◌else◌, [], ◌∷◌}
use Rattle.polcert_cells.specs.Tables.{CellTable}
use Rattle.polcert_optimum.specs.Policy.{ObservationPolicy}

-- listening leaves the tiger where it is, and a door that is opened resets it
abbrev pub transition : ℕ → ℕ → ℕ → ℕ
transition zero s e = if s == e then 2_000_000 else 0
transition (suc door) s e = 1_000_000

-- the tiger is heard on its side 85 times of 100
abbrev pub observation : ℕ → ℕ → ℕ → ℕ
observation zero e z = if e == z then 1_700_000 else 300_000
observation (suc door) e z = 1_000_000

-- listening costs 1, the tiger's door 100, and the other one earns 10
abbrev pub reward : ℕ → ℕ → ℤ
reward zero s = neg_ℤ (pos 1_000_000)
reward (suc door) s = if door == s then neg_ℤ (pos 100_000_000) else pos 10_000_000

abbrev pub tiger : CellTable
tiger = record {
  states = 2;
  actions = 3;
  observations = 2;
  discount = 950_000;
  t_scale = 2_000_000;
  o_scale = 2_000_000;
  t = transition;
  o = observation;
  r = λ a s e z. reward a s;
}

-- one vector for each action: listening is worth `listen`, the tiger's door -17.179, and the other door 92.821
abbrev pub tiger_vectors : ℤ → ℕ → ℕ → ℤ
tiger_vectors listen zero s = listen
tiger_vectors listen (suc door) s = if door == s then neg_ℤ (pos 17_179_000) else pos 92_821_000

-- listens once, and opens the door where the tiger was not heard
abbrev pub listen_and_open : ObservationPolicy
listen_and_open [] = 0
listen_and_open (z ∷ observations) = if z == 0 then 2 else 1

-- The keys of the words: the groups that they stand in, and what their values are.
use Rattle.std.specs.Prelude.{◌≤◌, ◌^◌, ℕ, List, [], ◌∷◌, Bool, true, false, ◌&&◌, codes, Option, option_map}
use Rattle.std.specs.List.{find, list_any}
use Rattle.std.specs.Str.{bytes_eq}
use Rattle.hierarchy.specs.Config.{IsCacheShape, IsTlbShape}
use Rattle.predictor.specs.Kind.{IsKind}
use Rattle.predictor.specs.declared.kind.Scheme.TheVariants.{Gshare}
use Rattle.smarts_text.specs.declared.keys.Form.{Form}
use Rattle.smarts_text.specs.declared.keys.Form.TheVariants.{Number, Machine, Cache, Tlb, Kind, Kinds}
use Rattle.smarts_text.specs.declared.keys.Group.{Group}
use Rattle.smarts_text.specs.declared.keys.Group.TheVariants as groups
use Rattle.smarts_text.specs.declared.keys.Key as code

-- a name, the group that it stands in, and its values. A command has every key of a group, or none
pub record Key : Type 0 where
  pub name : List ℕ
  pub group : Group
  pub form : Form

abbrev pub key : List ℕ → Group → Form → Key
key name group form = record { name = name; group = group; form = form }

-- of a number the least, the greatest and the default
abbrev pub unit_key : Key
unit_key = key (codes "unit") groups.Design (Number 16 10000 1000)

abbrev pub warm_key : Key
warm_key = key (codes "warm") groups.Design (Number 0 100000 2000)

abbrev pub every_key : Key
every_key = key (codes "every") groups.Design (Number 1 1000000 100)

abbrev pub offset_key : Key
offset_key = key (codes "offset") groups.Design (Number 0 999999 0)

abbrev pub seed_key : Key
seed_key = key (codes "seed") groups.Design (Number 0 (10 ^ 18) 1)

abbrev pub budget_key : Key
budget_key = key (codes "budget") groups.Budget (Number 1 (2 ^ 36) (10 ^ 9))

abbrev pub min_key : Key
min_key = key (codes "min") groups.Test (Number 2 65536 30)

abbrev pub z_key : Key
z_key = key (codes "z") groups.Test (Number 1 4000 3000)

abbrev pub error_key : Key
error_key = key (codes "error") groups.Test (Number 1 5000 300)

abbrev pub workers_key : Key
workers_key = key (codes "workers") groups.Workers (Number 1 64 1)

-- the default is `ruu`
abbrev pub machine_key : Key
machine_key = key (codes "machine") groups.Timing (Machine true)

-- lines of 64 bytes in 64 sets of 4 ways; the sizes are told by their logarithms to base 2
abbrev pub l1i_key : Key
l1i_key = key (codes "l1i") groups.Caches (Cache 6 6 4)

abbrev pub l1d_key : Key
l1d_key = key (codes "l1d") groups.Caches (Cache 6 6 4)

abbrev pub l2_key : Key
l2_key = key (codes "l2") groups.Caches (Cache 6 9 8)

-- 8 sets of 4 ways
abbrev pub itlb_key : Key
itlb_key = key (codes "itlb") groups.Caches (Tlb 3 4)

abbrev pub dtlb_key : Key
dtlb_key = key (codes "dtlb") groups.Caches (Tlb 4 4)

abbrev pub predictor_key : Key
predictor_key = key (codes "predictor") groups.Predictor (Kind (record { scheme = Gshare; bits = 12; target_log = 9; depth = 8 }))

-- of a library, which may be made for several
abbrev pub predictors_key : Key
predictors_key = key (codes "predictor") groups.Predictors (Kinds (record { scheme = Gshare; bits = 12; target_log = 9; depth = 8 }))

abbrev pub fetch_key : Key
fetch_key = key (codes "fetch") groups.Timing (Number 1 8 4)

abbrev pub dispatch_key : Key
dispatch_key = key (codes "dispatch") groups.Timing (Number 1 8 4)

abbrev pub issue_key : Key
issue_key = key (codes "issue") groups.Timing (Number 1 8 4)

abbrev pub retire_key : Key
retire_key = key (codes "retire") groups.Timing (Number 1 8 4)

abbrev pub queue_key : Key
queue_key = key (codes "queue") groups.Timing (Number 1 32 8)

abbrev pub ruu_key : Key
ruu_key = key (codes "ruu") groups.Timing (Number 4 256 32)

abbrev pub lsq_key : Key
lsq_key = key (codes "lsq") groups.Timing (Number 2 128 16)

abbrev pub penalty_key : Key
penalty_key = key (codes "penalty") groups.Timing (Number 1 64 6)

abbrev pub alus_key : Key
alus_key = key (codes "alus") groups.Timing (Number 1 8 4)

abbrev pub muls_key : Key
muls_key = key (codes "muls") groups.Timing (Number 1 8 1)

abbrev pub divs_key : Key
divs_key = key (codes "divs") groups.Timing (Number 1 8 1)

abbrev pub loads_key : Key
loads_key = key (codes "loads") groups.Timing (Number 1 8 2)

abbrev pub stores_key : Key
stores_key = key (codes "stores") groups.Timing (Number 1 8 1)

abbrev pub branches_key : Key
branches_key = key (codes "branches") groups.Timing (Number 1 8 1)

abbrev pub mullat_key : Key
mullat_key = key (codes "mullat") groups.Timing (Number 1 16 3)

abbrev pub divlat_key : Key
divlat_key = key (codes "divlat") groups.Timing (Number 1 64 20)

abbrev pub l1lat_key : Key
l1lat_key = key (codes "l1lat") groups.Timing (Number 1 16 2)

abbrev pub fwdlat_key : Key
fwdlat_key = key (codes "fwdlat") groups.Timing (Number 1 16 1)

abbrev pub l2lat_key : Key
l2lat_key = key (codes "l2lat") groups.Timing (Number 1 100 10)

abbrev pub memlat_key : Key
memlat_key = key (codes "memlat") groups.Timing (Number 1 1000 100)

abbrev pub tlblat_key : Key
tlblat_key = key (codes "tlblat") groups.Timing (Number 0 200 30)

-- its default is never read: `demo` without a size is at fault
abbrev pub size_key : Key
size_key = key (codes "size") groups.Size (Number 1 1000000 1)

unfoldable pub keys : List Key
keys =
    unit_key ∷ warm_key ∷ every_key ∷ offset_key ∷ seed_key ∷ budget_key ∷ min_key ∷ z_key ∷ error_key ∷ workers_key ∷ machine_key ∷ l1i_key ∷ l1d_key ∷ l2_key ∷ itlb_key ∷ dtlb_key ∷ predictor_key ∷ predictors_key ∷ fetch_key ∷ dispatch_key ∷ issue_key ∷ retire_key ∷ queue_key ∷ ruu_key ∷ lsq_key ∷ penalty_key ∷ alus_key ∷ muls_key ∷ divs_key ∷ loads_key ∷ stores_key ∷ branches_key ∷ mullat_key ∷ divlat_key ∷ l1lat_key ∷ fwdlat_key ∷ l2lat_key ∷ memlat_key ∷ tlblat_key ∷ size_key ∷ []

abbrev pub is_same : Group → Group → Bool
is_same groups.Design groups.Design = true
is_same groups.Budget groups.Budget = true
is_same groups.Test groups.Test = true
is_same groups.Workers groups.Workers = true
is_same groups.Caches groups.Caches = true
is_same groups.Predictor groups.Predictor = true
is_same groups.Predictors groups.Predictors = true
is_same groups.Timing groups.Timing = true
is_same groups.Size groups.Size = true
is_same _ _ = false

-- the key has this name, and stands in one of the groups
abbrev pub is_key : List Group → List ℕ → Key → Bool
is_key among name key = bytes_eq key.name name && list_any (λ g. is_same g key.group) among

-- the values of the key of this name, where it stands in one of the groups
unfoldable pub form_in : List Group → List ℕ → Option Form
form_in among name = option_map (λ key. key.form) (find (is_key among name) keys)

-- a key of the program
abbrev pub key_of : code.Key → Key
key_of key = record { name = key.name.now; group = key.group; form = key.form }

-- a number is in the range of its key
abbrev pub IsWithin : Form → ℕ → Type 0
IsWithin (Number low high usual) n = (low ≤ n) × (n ≤ high)
IsWithin form n = Unit {0}

-- a default is in the range of its key
abbrev pub IsUsual : Form → Type 0
IsUsual (Number low high usual) = (low ≤ usual) × (usual ≤ high)
IsUsual (Machine usual) = Unit {0}
IsUsual (Cache line_log sets_log ways) =
    IsCacheShape (record { line_log = line_log; sets_log = sets_log; ways = ways })
IsUsual (Tlb sets_log ways) =
    IsTlbShape (record { line_log = 12; sets_log = sets_log; ways = ways })
IsUsual (Kind usual) = IsKind usual
IsUsual (Kinds usual) = IsKind usual

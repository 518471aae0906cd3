-- Links between pairs: 512 bits for each pair, in words of 64.
-- A reader need not believe what stands here: `circle_of` says what is found.
use Rattle.std.specs.Prelude.{Bool, true, false, cond, List, [], ◌∷◌, ℕ, zero, suc, ◌+◌, ◌*◌, ◌^◌, ◌/◌, ◌%◌, eqb, get_or, set, replicate}
use Rattle.std.specs.Int.Bits.{bit_or}
use Rattle.laws.specs.Truth.{◌∧ᵇ◌, ◌∨ᵇ◌}
use Rattle.laws.specs.Words.{bit}
use Rattle.model.specs.Rules.{Pair, Rule}
use Rattle.model.specs.Strata.{tested}
use Rattle.table.specs.inner.Flat.{place_of, pair_places}

-- The words that a pair's links take.
abbrev pub pair_words : ℕ
pair_words = pair_places / 64

-- The words of all pairs' links.
abbrev pub all_words : ℕ
all_words = pair_places * pair_words

-- The word that holds the link from p to q.
abbrev pub word_at : ℕ → ℕ → ℕ
word_at p q = p * pair_words + q / 64

-- A link leads from the pair at p to the pair at q.
unfoldable pub linked : List ℕ → ℕ → ℕ → Bool
linked ws p q = bit (get_or ws (word_at p q) 0) (q % 64)

-- No links.
unfoldable pub no_links : List ℕ
no_links = replicate all_words 0

-- One link more, from p to q.
unfoldable pub add_link : List ℕ → ℕ → ℕ → List ℕ
add_link ws p q = set ws (word_at p q) (bit_or (get_or ws (word_at p q) 0) (2 ^ (q % 64)))

-- Links from p to each of some pairs.
unfoldable pub add_links : ℕ → List Pair → List ℕ → List ℕ
add_links p [] ws = ws
add_links p (q ∷ qs) ws = add_links p qs (add_link ws p (place_of q))

-- Links from each pair of one list to each of another.
unfoldable pub link_all : List Pair → List Pair → List ℕ → List ℕ
link_all [] qs ws = ws
link_all (p ∷ ps) qs ws = link_all ps qs (add_links (place_of p) qs ws)

-- The first w words of the links of k added to those of p.
unfoldable pub join_words : List ℕ → ℕ → ℕ → ℕ → List ℕ
join_words ws p k zero = ws
join_words ws p k (suc w) =
    set (join_words ws p k w) (p * pair_words + w)
    (bit_or (get_or (join_words ws p k w) (p * pair_words + w) 0) (get_or (join_words ws p k w) (k * pair_words + w) 0))

-- No link leads from the pair at p by the first w words of its links.
unfoldable pub is_empty : List ℕ → ℕ → ℕ → Bool
is_empty ws p zero = true
is_empty ws p (suc w) = eqb (get_or ws (p * pair_words + w) 0) 0 ∧ᵇ is_empty ws p w

-- The pair at p gets the links of the one at k, if a link leads from p to k.
unfoldable pub join_linked : List ℕ → ℕ → ℕ → List ℕ
join_linked ws p k = cond (linked ws p k) (join_words ws p k pair_words) ws

-- The same for each of the first p pairs.
unfoldable pub join_through : List ℕ → ℕ → ℕ → List ℕ
join_through ws k zero = ws
join_through ws k (suc p) = join_linked (join_through ws k p) p k

-- The same through each of the first k pairs.
unfoldable pub close_through : List ℕ → ℕ → List ℕ
close_through ws zero = ws
close_through ws (suc k) = join_through (close_through ws k) k pair_places

-- The place p is that of one of some pairs, or a link leads from it to one.
unfoldable pub leads_to : List ℕ → ℕ → List Pair → Bool
leads_to ws p [] = false
leads_to ws p (q ∷ qs) = eqb p (place_of q) ∨ᵇ linked ws p (place_of q) ∨ᵇ leads_to ws p qs

-- Of some pairs those that lead to one of others are flagged.
unfoldable pub flag_leading : List ℕ → List Pair → List Pair → List Bool → List Bool
flag_leading ws [] qs bs = bs
flag_leading ws (p ∷ ps) qs bs = flag_leading ws ps qs (cond (leads_to ws (place_of p) qs) (set bs (place_of p) true) bs)

-- The places p and k are one, or links lead from each to the other.
unfoldable pub connected : List ℕ → ℕ → ℕ → Bool
connected ws p k = eqb p k ∨ᵇ (linked ws p k ∧ᵇ linked ws k p)

-- Of the first p places those that are connected with k are flagged.
unfoldable pub flag_connected : List ℕ → ℕ → List Bool → ℕ → List Bool
flag_connected ws k bs zero = bs
flag_connected ws k bs (suc p) = cond (connected ws p k) (set (flag_connected ws k bs p) p true) (flag_connected ws k bs p)

-- The flags of the first k places carried to all that is connected with a flagged one.
unfoldable pub spread : List ℕ → List Bool → ℕ → List Bool
spread ws bs zero = replicate pair_places false
spread ws bs (suc k) = cond (get_or bs k false) (flag_connected ws k (spread ws bs k) pair_places) (spread ws bs k)

-- One of some pairs is flagged and leads to one of others.
unfoldable pub some_leads : List ℕ → List Bool → List Pair → List Pair → Bool
some_leads ws bs [] qs = false
some_leads ws bs (p ∷ ps) qs = (get_or bs (place_of p) false ∧ᵇ leads_to ws (place_of p) qs) ∨ᵇ some_leads ws bs ps qs

-- A rule is on a circle by the links: a flagged pair that it tests leads to one that it assigns.
unfoldable pub circled_by : List ℕ → List Bool → Rule → Bool
circled_by ws bs r = some_leads ws bs (tested r) r.assignments

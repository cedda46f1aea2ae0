-- Records of a file with the bytes of each.
use Rattle.std.proofs.Common.{◌≡◌, ℕ, suc, ◌+◌, ◌<◌, List, [], ◌∷◌, ◌++◌, Option, refl, sym, ap, ◌∙◌, subst, arith, length, take, map, get_or}
use Rattle.std.specs.Option.{option_map}
use Rattle.std.proofs.lemmas.List.{map-append, take_more}
use Rattle.sync_model.specs.Servers.{ServerRecord}
use Rattle.sync_exchange.specs.Seen.{read_server, server_seen}
use Rattle.sync_records.specs.declared.server.ServerRecord.{ServerRecord as CodeRecord}
use Rattle.server_memory.specs.Fronting.{AreSpelled, IsSpelled, seen}

-- one more at the end
spelled_more : (os : List (Option ServerRecord)) (file : List (List ℕ)) (o : Option ServerRecord) (bytes : List ℕ) → length os ≡ length file → AreSpelled os file → IsSpelled o bytes → AreSpelled (os ++ o ∷ []) (file ++ bytes ∷ [])
spelled_more [] [] o bytes e s h = (h, tt)
spelled_more [] (b ∷ file) o bytes e s h = absurd (omega (arith, e))
spelled_more (p ∷ os) [] o bytes e s h = absurd (omega (arith, e))
spelled_more (p ∷ os) (b ∷ file) o bytes e s h = (s.0, spelled_more os file o bytes (omega (arith, e)) s.1 h)

one_more : (files : List (List ℕ)) (i : ℕ) (bytes : List ℕ) → i < length files → bytes ≡ get_or files i [] → take (i + 1) files ≡ take i files ++ bytes ∷ []
one_more files i bytes h is = take_more files i [] h ∙ ap (λ y. take i files ++ y ∷ []) (sym is)

pub record ReadMore (files : List (List ℕ)) (i : ℕ) (now : List (Option CodeRecord)) : Type 0 where
  pub read : seen now ≡ map read_server (take (i + 1) files)
  pub spelled : AreSpelled (seen now) (take (i + 1) files)

pub read_more : (files : List (List ℕ)) (i : ℕ) (x : List ℕ) (found now : List (Option CodeRecord)) (r : Option CodeRecord) → i < length files → x ≡ get_or files i [] → seen found ≡ map read_server (take i files) → AreSpelled (seen found) (take i files)
    → now ≡ found ++ r ∷ [] → option_map server_seen r ≡ read_server x → IsSpelled (option_map server_seen r) x → ReadMore files i now
read_more files i x found now r h is was spelled after read one =
    let longer : seen now ≡ seen found ++ option_map server_seen r ∷ [] = ap seen after ∙ map-append (option_map server_seen) found (r ∷ []) in
    let bytes = one_more files i x h is in
    let size : length (seen found) ≡ length (take i files) = ap length was ∙ mapped (take i files) in
    record {
      read = longer ∙ (λ j. was j ++ read j ∷ []) ∙ sym (map-append read_server (take i files) (x ∷ [])) ∙ ap (map read_server) (sym bytes);
      spelled = subst (λ l. AreSpelled l (take (i + 1) files)) (sym longer) (subst (AreSpelled (seen found ++ option_map server_seen r ∷ [])) (sym bytes) (spelled_more (seen found) (take i files) (option_map server_seen r) x size spelled one));
    }
  where
    mapped : (l : List (List ℕ)) → length (map read_server l) ≡ length l
    mapped [] = refl
    mapped (b ∷ l) = ap suc (mapped l)

-- Clauses along their lists (Ways), and the lists built (Links).
mod Ways
mod Links

mod Carryings

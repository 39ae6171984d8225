mod Parities
